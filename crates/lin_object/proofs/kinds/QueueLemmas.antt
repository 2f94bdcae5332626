-- The table of queues keeps the law of their runs.
use Rattle.std.proofs.Common.{◌≡◌, List, [], ◌∷◌, ◌++◌, refl, sym, ap, subst, ◌∙◌, append_assoc, append-nil}
use Rattle.std.specs.Prelude.{ℤ}
use Rattle.lin_object.specs.declared.op.Op.{Op}
use Rattle.lin_object.specs.declared.op.Op.TheVariants.{Enqueue, Dequeue}
use Rattle.lin_object.specs.declared.reply.Reply.{Reply}
use Rattle.lin_object.specs.declared.state.ObjState.{ObjState}
use Rattle.lin_object.specs.declared.state.ObjState.TheVariants.{Queue}
use Rattle.lin_object.specs.Runs.{Step, RunsFrom}
use Rattle.lin_object.specs.Kinds.{after}
use Rattle.lin_object.specs.Kinds.Queue.{queue_step, put_in_by, taken_out_by, put_in, taken_out, QueueLaw}
use Rattle.lin_object.proofs.AnswerLemmas.{Gives, no_step, state_given, reply_given}

-- what one step leaves in the queue
abbrev QueueStep : List ℤ → Op → ObjState → Reply → Type 0
QueueStep items op m r = (rest : List ℤ) × (m ≡ Queue rest) × (items ++ put_in_by op ≡ taken_out_by op r ++ rest)

queue_leaves : (items : List ℤ) (op : Op) (m : ObjState) (r : Reply) → Gives (queue_step items op) m r → QueueStep items op m r
queue_leaves items (Enqueue w) m r e = (items ++ w ∷ [], sym (state_given e), refl)
queue_leaves [] Dequeue m r e = ([], sym (state_given e), rw (← reply_given e) refl)
queue_leaves (v ∷ items) Dequeue m r e = (items, sym (state_given e), rw (← reply_given e) (append-nil (v ∷ items)))
queue_leaves items op m r e = absurd (no_step e)

queue_chain : (items put puts taken takens rest more : List ℤ) → items ++ put ≡ taken ++ more → more ++ puts ≡ takens ++ rest → items ++ (put ++ puts) ≡ (taken ++ takens) ++ rest
queue_chain items put puts taken takens rest more one later =
    sym (append_assoc items put puts) ∙ ap (λ (l : List ℤ). l ++ puts) one ∙ append_assoc taken more puts ∙ ap (λ (l : List ℤ). taken ++ l) later ∙ sym (append_assoc taken takens rest)

queue_runs : (items : List ℤ) (run : List Step) (t : ObjState) → RunsFrom after (Queue items) run t → (rest : List ℤ) × (t ≡ Queue rest) × (items ++ put_in run ≡ taken_out run ++ rest)
queue_runs items [] t e = (items, sym e, append-nil items)
queue_runs items (step ∷ steps) t (m, e, rest) =
    let one : QueueStep items step.op m step.reply = queue_leaves items step.op m step.reply e in
    let later = queue_runs one.0 steps t (subst (λ (s : ObjState). RunsFrom after s steps t) one.1 rest) in
    (later.0, later.1, queue_chain items (put_in_by step.op) (put_in steps) (taken_out_by step.op step.reply) (taken_out steps) later.0 one.0 one.2 later.2)

pub queue_keeps : QueueLaw after
queue_keeps = record {
  order = queue_runs;
  puts = λ items v process. refl;
  takes = λ v items process. refl;
  empty = λ process. refl;
}
