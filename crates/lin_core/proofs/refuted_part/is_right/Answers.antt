use Rattle.std.proofs.Common.{◌≡◌, Bool, Option, sym, subst}
use Rattle.std.specs.Prelude.{IsTrue}
use Rattle.lin_history.specs.Problems.AnyProblem.{any_problem}
use Rattle.lin_core.specs.declared.selection.MapKey.{MapKey}
use Rattle.lin_core.specs.Cuts.{AreEnough}
use Rattle.lin_core.specs.Values.{StartsEmpty}
use Rattle.lin_core.specs.KeyValues.{IsOnKey, IsOffKey, IsMap}
use Rattle.lin_core.specs.Cores.{AreEnoughAlone, IsCoreFromStart, StartsAs, HasNone}
use Rattle.lin_core.proofs.CheckLemmas.{ok_more, ok_two}
use Rattle.lin_core.proofs.CoreLemmas.{core, key_core}
use Rattle.lin_core.proofs.refuted_part.is_right.Goals as goal

pub returns-in-None-clause-starts : goal.returns-in-None-clause-starts
returns-in-None-clause-starts g c = ok_more c.is_enough.result
    (λ (b : Bool). IsTrue b → StartsEmpty c.args.problem.now.start)
    (λ (b : Bool). IsTrue b → StartsAs c.args.selection.now.key c.args.problem.now.start)
    (λ b told yes. subst (λ (k : Option MapKey). StartsAs k c.args.problem.now.start) (sym c.in-None.is) (told yes)) c.is_enough.ensures.empty

pub returns-in-None-clause-core : goal.returns-in-None-clause-core
returns-in-None-clause-core g c = ok_two c.is_enough.result
    (λ (b : Bool). IsTrue b → c.args.part.now.start ≡ c.args.problem.now.start)
    (λ (b : Bool). IsTrue b → AreEnoughAlone (any_problem c.args.problem.now) c.args.selection.now.event c.args.selection.now.calls.items c.args.part.now.calls c.args.selection.now.values.items c.args.selection.now.firsts.items)
    (λ (b : Bool). IsTrue b → HasNone (any_problem c.args.part.now) → IsCoreFromStart (any_problem c.args.problem.now) c.args.selection.now.event c.args.selection.now.key c.args.selection.now.values.items c.args.selection.now.calls.items c.args.selection.now.firsts.items)
    (λ b start enough yes none. subst (λ (k : Option MapKey). IsCoreFromStart (any_problem c.args.problem.now) c.args.selection.now.event k c.args.selection.now.values.items c.args.selection.now.calls.items c.args.selection.now.firsts.items) (sym c.in-None.is)
    (core c.args.problem.now c.args.part.now (start yes) c.args.selection.now.event c.args.selection.now.values.items c.args.selection.now.calls.items c.args.selection.now.firsts.items (enough yes) none))
    c.is_enough.ensures.start c.is_enough.ensures.enough

pub returns-in-Some-clause-starts : goal.returns-in-Some-clause-starts
returns-in-Some-clause-starts g c = ok_more c.is_enough_by_key.result
    (λ (b : Bool). IsTrue b → IsMap c.args.problem.now.start)
    (λ (b : Bool). IsTrue b → StartsAs c.args.selection.now.key c.args.problem.now.start)
    (λ b told yes. subst (λ (k : Option MapKey). StartsAs k c.args.problem.now.start) (sym c.in-Some.is) (told yes)) c.is_enough_by_key.ensures.map

pub returns-in-Some-clause-core : goal.returns-in-Some-clause-core
returns-in-Some-clause-core g c = ok_two c.is_enough_by_key.result
    (λ (b : Bool). IsTrue b → c.args.part.now.start ≡ c.args.problem.now.start)
    (λ (b : Bool). IsTrue b → AreEnough (any_problem c.args.problem.now) c.args.selection.now.event c.args.selection.now.calls.items c.args.part.now.calls (IsOnKey c.in-Some.key.key c.in-Some.key.nothing c.args.selection.now.values.items) (IsOffKey c.in-Some.key.key c.in-Some.key.nothing c.args.selection.now.values.items))
    (λ (b : Bool). IsTrue b → HasNone (any_problem c.args.part.now) → IsCoreFromStart (any_problem c.args.problem.now) c.args.selection.now.event c.args.selection.now.key c.args.selection.now.values.items c.args.selection.now.calls.items c.args.selection.now.firsts.items)
    (λ b start enough yes none. subst (λ (k : Option MapKey). IsCoreFromStart (any_problem c.args.problem.now) c.args.selection.now.event k c.args.selection.now.values.items c.args.selection.now.calls.items c.args.selection.now.firsts.items) (sym c.in-Some.is)
    (key_core c.args.problem.now c.args.part.now (start yes) c.args.selection.now.event c.in-Some.key c.args.selection.now.values.items c.args.selection.now.calls.items (enough yes) none))
    c.is_enough_by_key.ensures.start c.is_enough_by_key.ensures.enough
