use Rattle.std.proofs.Common.{◌≡◌, ℕ, List, [], ◌∷◌, ◌++◌, ◌-◌, ◌∙◌, arith, inl, inr, subst}
use Rattle.std.specs.Prelude.{not}
use Rattle.lin_history.specs.Problems.Lists.{In}
use Rattle.lin_history.specs.Problems.Problem.{problem_of}
use Rattle.lin_search.proofs.PathLemmas.{ok_map}
use Rattle.lin_prefixes.specs.Prefixes.{IsRunLacking}
use Rattle.lin_prefixes.proofs.BeatenLemmas.{beaten_itself, beaten_chain}
use Rattle.lin_prefixes.proofs.LackLemmas.{missed_none}
use Rattle.lin_prefixes.proofs.ListLemmas.{filter_in}
use Rattle.lin_prefixes.proofs.OneMoreLemmas.{lacking_twins, removed_in}
use Rattle.lin_prefixes.proofs.choices.+try_open.Goals as goal

pub returns-then-choice-eq0-clause-known : goal.returns-then-choice-eq0-clause-known
returns-then-choice-eq0-clause-known g t c =
    ok_map _ _ c.try_dropped.result (λ known h yes r w closed. h yes r (subst (λ (n : ℕ). IsRunLacking (problem_of g.O.SeqObject.after g.O.State.PartialEq.eq g.O.Reply.PartialEq.eq c.args.problem.now) c.args.choice.cut.call c.args.choice.dropped.now c.args.choice.late.now n r) c.if-choice-eq0.true w)) c.try_dropped.ensures.known

pub loop-alloc-init : goal.loop-alloc-init
loop-alloc-init g t c = record {
  run = c.requires.run;
  conflicts = c.requires.conflicts;
  better = beaten_itself c.args.best.now;
  late = λ d h. c.requires.late d (subst (In d) c.in_ok-late.ensures.items h);
  tried = λ r w closed. inr (rw c.in_ok-late.ensures.items w);
}

pub returns-then-branch-clause-known : goal.returns-then-branch-clause-known
returns-then-branch-clause-known g t c =
    λ yes r w closed. elim (c.loop-alloc.invariant.tried r w closed) [
      | inl beaten ↦ beaten
      | inr left ↦ absurd (missed_none (problem_of g.O.SeqObject.after g.O.State.PartialEq.eq g.O.Reply.PartialEq.eq c.args.problem.now) c.args.choice.cut.call c.loop-alloc.conflicts.items c.args.choice.dropped.now c.loop-alloc.late.items c.args.choice.lacking r c.loop-alloc.invariant.conflicts (rw (c.as_slice-known.ensures.value, c.as_slice-in-loop-alloc-2.ensures.value) at (c.in_ok-some_missed.ensures c.if-branch.true)) left)
    ]

pub returns-then-not-branch-clause-better : goal.returns-then-not-branch-clause-better
returns-then-not-branch-clause-better g t c = beaten_chain c.try_open.new.best c.loop-alloc.best c.args.best.now c.in_ok-try_open.ensures.better c.loop-alloc.invariant.better

pub loop-alloc-preserved-then-len-choice : goal.loop-alloc-preserved-then-len-choice
loop-alloc-preserved-then-len-choice g t c =
    let p = problem_of g.O.SeqObject.after g.O.State.PartialEq.eq g.O.Reply.PartialEq.eq c.args.problem.now in
    let left = c.as_slice-in-loop-alloc-3.ensures.value ∙ c.remove-next.ensures.items in
    record {
      run = c.loop-alloc.invariant.run;
      conflicts = c.loop-alloc.invariant.conflicts;
      better = c.loop-alloc.invariant.better;
      late = λ d h. c.loop-alloc.invariant.late d (removed_in c.loop-alloc.late.items 0 d (subst (In d) c.remove-next.ensures.items h));
      tried = λ r w closed. elim (c.loop-alloc.invariant.tried r w closed) [
        | inl beaten ↦ inl beaten
        | inr lacks ↦ elim (lacking_twins p c.args.choice.cut.call c.args.choice.cut.others.now c.args.choice.dropped.now c.loop-alloc.late.items c.as_slice-in-loop-alloc-3.result.now c.args.best.now 0 c.remove-next.result c.args.choice.lacking c.in_ok-twins.twins r
            (let v = c.loop-alloc.late.ok.0 in let d = c.remove-next.ensures.len in omega (arith, d, v))
            c.remove-next.ensures.value left c.in_ok-twins.ensures c.loop-alloc.invariant.late (λ z. (let h = c.if-choice-eq0.false in omega (arith, h, z))) closed lacks) [
              | inl beaten ↦ inl (beaten_chain c.loop-alloc.best c.args.best.now r c.loop-alloc.invariant.better beaten)
              | inr (inl has) ↦ inr (subst (λ (l : List ℕ). IsRunLacking p c.args.choice.cut.call c.args.choice.dropped.now l c.args.choice.lacking r) c.as_slice-in-loop-alloc-3.ensures.value has)
              | inr (inr m) ↦ absurd (let few = c.if-len-choice.true in let n = c.len.ensures in let v = c.in_ok-twins.twins.again.ok.0 in let e = m.1 in omega (arith, few, n, v, e))
            ]
      ];
    }

pub try_open-requires : goal.try_open-requires
try_open-requires g t c κs within =
    let parted = c.in_ok-twins.ensures in
    let late : (d : ℕ) → In d c.as_slice-in-loop-alloc-6.result.now → In d c.args.choice.cut.others.now = (λ d h.
    let there = (filter_in (λ (x : ℕ). not (parted.test x)) c.as_slice-in-loop-alloc-3.result.now d (subst (In d) (c.as_slice-in-loop-alloc-6.ensures.value ∙ parted.others) h)).0 in
    c.loop-alloc.invariant.late d (removed_in c.loop-alloc.late.items 0 d (subst (In d) (c.as_slice-in-loop-alloc-3.ensures.value ∙ c.remove-next.ensures.items) there))) in
    ((let d = c.decreases in let h = c.if-choice-eq0.false in omega (arith, d, h)), (within.0, (within.1.0, (within.1.1.0, (within.1.1.1.0, (within.1.1.1.1, (c.requires.call, (c.loop-alloc.invariant.run, (late, c.loop-alloc.invariant.conflicts)))))))))

pub loop-alloc-preserved : goal.loop-alloc-preserved
loop-alloc-preserved g t c =
    let p = problem_of g.O.SeqObject.after g.O.State.PartialEq.eq g.O.Reply.PartialEq.eq c.args.problem.now in
    let left = c.as_slice-in-loop-alloc-3.ensures.value ∙ c.remove-next.ensures.items in
    let better = beaten_chain c.try_open.new.best c.loop-alloc.best c.args.best.now c.in_ok-try_open.ensures.better c.loop-alloc.invariant.better in
    record {
      run = c.in_ok-try_open.ensures.run;
      conflicts = c.in_ok-try_open.ensures.conflicts;
      better = better;
      late = λ d h. c.loop-alloc.invariant.late d (removed_in c.loop-alloc.late.items 0 d (subst (In d) c.remove-next.ensures.items h));
      tried = λ r w closed. elim (c.loop-alloc.invariant.tried r w closed) [
        | inl beaten ↦ inl (beaten_chain c.try_open.new.best c.loop-alloc.best r c.in_ok-try_open.ensures.better beaten)
        | inr lacks ↦ elim (lacking_twins p c.args.choice.cut.call c.args.choice.cut.others.now c.args.choice.dropped.now c.loop-alloc.late.items c.as_slice-in-loop-alloc-3.result.now c.args.best.now 0 c.remove-next.result c.args.choice.lacking c.in_ok-twins.twins r
            (let v = c.loop-alloc.late.ok.0 in let d = c.remove-next.ensures.len in omega (arith, d, v))
            c.remove-next.ensures.value left c.in_ok-twins.ensures c.loop-alloc.invariant.late (λ z. (let h = c.if-choice-eq0.false in omega (arith, h, z))) closed lacks) [
              | inl beaten ↦ inl (beaten_chain c.try_open.new.best c.args.best.now r better beaten)
              | inr (inl has) ↦ inr (subst (λ (l : List ℕ). IsRunLacking p c.args.choice.cut.call c.args.choice.dropped.now l c.args.choice.lacking r) c.as_slice-in-loop-alloc-3.ensures.value has)
              | inr (inr m) ↦ (
                  let few = c.if-len-choice.false in
                  let n = c.len-in-loop-alloc.ensures in
                  let v = c.in_ok-twins.twins.again.ok.0 in
                  let e = m.1 in
                  let count : m.0 ≡ c.args.choice.lacking - 1 - c.len-in-loop-alloc.result = omega (arith, n, v, e) in
                  inl (c.in_ok-try_open.ensures.known c.if-not-branch.false r
                  (rw (c.as_slice-in-loop-alloc-5.ensures.value, c.in_ok-more.ensures, c.as_slice-in-loop-alloc-4.ensures.value, c.as_slice-in-loop-alloc-6.ensures.value)
                  (subst (λ (n : ℕ). IsRunLacking p c.args.choice.cut.call ((c.args.choice.dropped.now ++ c.remove-next.result ∷ []) ++ c.in_ok-twins.twins.again.items) c.in_ok-twins.twins.others.items n r) count m.2))
                  (λ l d h run with. beaten_chain c.loop-alloc.best c.args.best.now l c.loop-alloc.invariant.better (closed l d h run with)))
                  )
            ]
      ];
    }
