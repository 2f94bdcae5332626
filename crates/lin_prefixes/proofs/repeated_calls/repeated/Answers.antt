use Rattle.std.proofs.Common.{ℕ, [], ◌∷◌, get_or, inl, inr, sym, subst}
use Rattle.lin_history.specs.Problems.Lists.{In}
use Rattle.lin_history.specs.Problems.ListLemmas.{in_either}
use Rattle.lin_history.specs.Problems.Problem.{problem_of}
use Rattle.lin_prefixes.specs.Prefixes.{StandsBefore}
use Rattle.lin_prefixes.proofs.repeated_calls.repeated.Goals as goal
use Rattle.lin_prefixes.proofs.repeated_calls.repeated.Goals.{then-is_repeated+in_ok-push, else-is_repeated}

pub loop-c-preserved : goal.loop-c-preserved
loop-c-preserved g c =
    let x : ℕ = get_or c.args.calls.now c.loop-c.c-index 0 in
    elim c.if-is_repeated.branch [
      | then-is_repeated+in_ok-push w ↦ rw w.again-is (λ d h k. elim (in_either d c.loop-c.again.items (x ∷ []) (subst (In d) w.in_ok-push.ensures.items h)) [
        | inl old ↦ c.loop-c.invariant d old k
        | inr (inl e) ↦ subst (λ (y : ℕ). StandsBefore (problem_of g.O.SeqObject.after g.O.State.PartialEq.eq g.O.Reply.PartialEq.eq c.args.problem.now) k c.args.call y) (sym e) (c.is_repeated.ensures w.if-is_repeated.true k)
        | inr (inr none) ↦ absurd none
      ])
      | else-is_repeated w ↦ rw w.again-is c.loop-c.invariant
    ]
