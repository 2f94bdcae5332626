use Rattle.std.proofs.Common.{ℕ, List, subst, sym}
use Rattle.std.specs.Prelude.{All}
use Rattle.lin_history.specs.Problems.Problem.{problem_of}
use Rattle.lin_search.proofs.PathLemmas.{ok_map}
use Rattle.lin_prefixes.specs.Prefixes.{AreSplit, IsConflict}
use Rattle.lin_prefixes.proofs.BeatenLemmas.{beaten_chain, beaten_itself}
use Rattle.lin_prefixes.proofs.SplitLemmas.{split_again, too_short}
use Rattle.lin_prefixes.proofs.by_prefixes.try_others.Goals as goal

pub returns-then-not-may_be_best-clause-better : goal.returns-then-not-may_be_best-clause-better
returns-then-not-may_be_best-clause-better g c = beaten_itself c.args.best.now

pub returns-then-not-may_be_best-clause-known : goal.returns-then-not-may_be_best-clause-known
returns-then-not-may_be_best-clause-known g c = λ yes r w. too_short (problem_of g.O.SeqObject.after g.O.State.PartialEq.eq g.O.Reply.PartialEq.eq c.args.problem.now) c.args.cut.call c.args.cut.spared.now c.args.cut.others.now c.args.best.now c.requires.split (c.may_be_best.ensures c.if-not-may_be_best.true) r w

pub returns-then-branch-clause-known : goal.returns-then-branch-clause-known
returns-then-branch-clause-known g c = λ yes. c.in_ok-try_longest.ensures.known c.if-branch.true

pub returns-clause-better : goal.returns-clause-better
returns-clause-better g c =
    ok_map _ _ c.try_levels.result (λ known h. beaten_chain c.try_levels.new.best c.try_longest.new.best c.args.best.now h c.in_ok-try_longest.ensures.better) c.try_levels.ensures.better

pub try_levels-requires-clause-split : goal.try_levels-requires-clause-split
try_levels-requires-clause-split g c =
    let p = problem_of g.O.SeqObject.after g.O.State.PartialEq.eq g.O.Reply.PartialEq.eq c.args.problem.now in
    subst (λ (l : List ℕ). AreSplit p c.args.cut.call l c.as_slice-4.result.now) (sym c.as_slice-3.ensures.value)
    (subst (λ (l : List ℕ). AreSplit p c.args.cut.call c.in_ok-parted.parted.gone.items l) (sym c.as_slice-4.ensures.value)
    (split_again p c.args.cut.call c.as_slice-2.result.now c.args.cut.spared.now c.args.cut.others.now c.in_ok-parted.parted
    (subst (λ (l : List (List ℕ)). All (IsConflict p c.args.cut.call) l) (sym c.as_slice-2.ensures.value) c.in_ok-add_all_single.ensures) c.requires.split c.in_ok-parted.ensures))
