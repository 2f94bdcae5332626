use Rattle.std.proofs.Common.{ℕ, [], ◌∷◌, get_or, sym, subst}
use Rattle.std.proofs.lemmas.List.Elements.{All-push, All-same}
use Rattle.lin_history.specs.Problems.Problem.{problem_of}
use Rattle.lin_prefixes.specs.Prefixes.{AreCompletedUpTo, HasNoRunWith, IsConflict}
use Rattle.lin_prefixes.proofs.LackLemmas.{conflict_of_one, none_behind}
use Rattle.lin_prefixes.proofs.conflicts.add_repeated.Goals as goal
use Rattle.lin_prefixes.proofs.conflicts.add_repeated.Goals.{then-are_completed_up_to+in_ok-push, else-are_completed_up_to, else-c-single-via-then-c-single+else-not-is_repeated, else-c-single-via-else-c-single}

pub loop-c-preserved : goal.loop-c-preserved
loop-c-preserved g c =
    let p = problem_of g.O.SeqObject.after g.O.State.PartialEq.eq g.O.Reply.PartialEq.eq c.args.problem.now in
    let x : ℕ = get_or c.args.cut.others.now c.loop-c.c-index 0 in
    let none : HasNoRunWith p c.args.cut.call (x ∷ []) = elim c.else-c-single.branch [
      | else-c-single-via-then-c-single+else-not-is_repeated w ↦ none_behind p c.args.cut.call c.args.single x c.requires.single (w.is_repeated.ensures w.if-not-is_repeated.false c.args.cut.call)
      | else-c-single-via-else-c-single w ↦ subst (λ (y : ℕ). HasNoRunWith p c.args.cut.call (y ∷ [])) (sym w.if-c-single.false) c.requires.single
    ] in
    elim c.if-are_completed_up_to.branch [
      | then-are_completed_up_to+in_ok-push w ↦ rw w.conflicts-is (All-same (IsConflict p c.args.cut.call) _ _ w.in_ok-push.ensures.items (All-push (IsConflict p c.args.cut.call) _ _ c.loop-c.invariant
          (conflict_of_one p c.args.cut.call x _ c.in_ok-conflict.ensures none (subst (AreCompletedUpTo p c.args.cut.call) c.calls.ensures (c.are_completed_up_to.ensures w.if-are_completed_up_to.true)))))
      | else-are_completed_up_to w ↦ rw w.conflicts-is c.loop-c.invariant
    ]
