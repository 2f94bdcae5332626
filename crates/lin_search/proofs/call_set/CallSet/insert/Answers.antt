use Rattle.std.proofs.Common.{◌≡◌, ◌<◌, ◌≤◌, ◌+◌, ◌/◌, ◌∙◌, false, arith}
use Rattle.lin_search.specs.Window.{word_at, has_bit, IsWindow, Adds}
use Rattle.lin_search.proofs.WindowLemmas.{flags_with, place_past, full_within, inserted_adds, inserted_window}
use Rattle.lin_search.proofs.CallSetFieldsLemmas.{kept_with, sum_small, bit_seen, call_within}
use Rattle.lin_search.proofs.call_set.CallSet.insert.Goals as goal
use Rattle.lin_search.proofs.call_set.CallSet.insert.Goals.{After-drop_full}

pub overflow_sub-index : goal.overflow_sub-index
overflow_sub-index c = place_past c.self.inside.full c.self.inside.words.items c.args.call (bit_seen c.self.invariant c.self.view_is c.args.call ∙ c.requires.outside)

-- the call is one of the problem's
below : (c : After-drop_full) → c.args.call < c.self.inside.calls
below c = call_within c.self.invariant c.self.view_is c.args.call c.requires.within

-- the call is not in the set
out : (c : After-drop_full) → has_bit (word_at c.self.inside.full c.self.inside.words.items) c.args.call ≡ false
out c = bit_seen c.self.invariant c.self.view_is c.args.call ∙ c.requires.outside

from : (c : After-drop_full) → c.self.inside.full ≤ c.args.call / 64
from c = place_past c.self.inside.full c.self.inside.words.items c.args.call (out c)

adds : (c : After-drop_full) → Adds (word_at c.self.inside.full c.self.inside.words.items) (word_at (c.self.inside.full + c.drop_full.result) c.drop_full.new.words.items) c.args.call
adds c =
    let set = c.self.inside in
    rw c.drop_full.ensures.rest
    (inserted_adds set.calls set.full set.words.items c.lengthen.new.words.items c.set_bit.new.words.items c.args.call c.drop_full.result c.self.invariant.window (below c) (from c) c.in_ok-lengthen.ensures.len c.lengthen.ensures.same c.set_bit.ensures c.drop_full.ensures.full c.drop_full.ensures.stops)

window : (c : After-drop_full) → IsWindow c.self.inside.calls (c.self.inside.full + c.drop_full.result) c.drop_full.new.words.items
window c =
    let set = c.self.inside in
    rw c.drop_full.ensures.rest
    (inserted_window set.calls set.full set.words.items c.lengthen.new.words.items c.set_bit.new.words.items c.args.call c.drop_full.result c.self.invariant.window (below c) (from c) c.in_ok-lengthen.ensures.len c.lengthen.ensures.same c.set_bit.ensures c.drop_full.ensures.full c.drop_full.ensures.stops)

pub overflow_cast-self : goal.overflow_cast-self
overflow_cast-self c =
    let set = c.self.inside in
    let last = (goal.at.overflow_cast-self c).After-drop_full in
    omega (arith, full_within set.calls (set.full + c.drop_full.result) c.drop_full.new.words.items (window last).within, c.self.invariant.few)

pub overflow_cast-self-2 : goal.overflow_cast-self-2
overflow_cast-self-2 c =
    let within = below (goal.at.overflow_cast-self-2 c).After-drop_full in
    omega (arith, within, c.self.invariant.few)

pub overflow_add-self : goal.overflow_add-self
overflow_add-self c =
    let set = c.self.inside in
    let last = (goal.at.overflow_add-self c).After-drop_full in
    omega (arith, full_within set.calls (set.full + c.drop_full.result) c.drop_full.new.words.items (window last).within, c.self.invariant.few)

pub overflow_add-self-2 : goal.overflow_add-self-2
overflow_add-self-2 c =
    let set = c.self.inside in
    let small = sum_small set.calls set.full set.words.items set.hash set.sum c.self.invariant in
    omega (arith, small, c.self.invariant.few, below (goal.at.overflow_add-self-2 c).After-drop_full)

pub invariant_of-self-2 : goal.invariant_of-self-2
invariant_of-self-2 c =
    let set = c.self.inside in
    let last = (goal.at.invariant_of-self-2 c).After-drop_full in
    rw c.weight.ensures
    (kept_with set.calls set.full (set.full + c.drop_full.result) set.words.items c.drop_full.new.words.items set.hash set.sum c.args.call c.self.invariant (below last) (out last) (window last) (adds last))

pub returns-clause-lifted : goal.returns-clause-lifted
returns-clause-lifted c =
    let set = c.self.inside in
    let last = (goal.at.returns-clause-lifted c).After-drop_full in
    rw (← c.self.view_is)
    (flags_with set.calls set.full (set.full + c.drop_full.result) set.words.items c.drop_full.new.words.items c.args.call (below last) (adds last))
