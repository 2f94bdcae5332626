use Rattle.std.proofs.Common.{◌≡◌, ◌<◌, ◌∙◌, ◌^◌, false, sym, arith}
use Rattle.lin_search.specs.Window.{word_at, has_bit, IsWindow, Adds}
use Rattle.lin_search.proofs.WindowLemmas.{flags_with, flag_is, opened_within, removed_adds, removed_out, removed_window}
use Rattle.lin_search.proofs.CallSetFieldsLemmas.{kept_without, sum_holds, bit_seen, call_there}
use Rattle.lin_search.proofs.call_set.CallSet.remove.Goals as goal
use Rattle.lin_search.proofs.call_set.CallSet.remove.Goals.{After-drop_empty}

pub clear_bit-requires : goal.clear_bit-requires
clear_bit-requires c =
    let set = c.self.inside in
    opened_within set.full c.open_full.new.full set.words.items c.open_full.new.words.items c.args.call (bit_seen c.self.invariant c.self.view_is c.args.call ∙ c.requires) c.open_full.ensures.same c.in_ok-open_full.ensures.opened c.open_full.ensures.kept

adds : (c : After-drop_empty) → Adds (word_at c.open_full.new.full c.drop_empty.new.words.items) (word_at c.self.inside.full c.self.inside.words.items) c.args.call
adds c =
    let set = c.self.inside in
    removed_adds set.calls set.full c.open_full.new.full set.words.items c.open_full.new.words.items c.clear_bit.new.words.items c.drop_empty.new.words.items c.args.call c.self.invariant.window (bit_seen c.self.invariant c.self.view_is c.args.call ∙ c.requires) c.open_full.ensures.same c.in_ok-open_full.ensures.opened c.open_full.ensures.kept c.clear_bit.ensures c.drop_empty.ensures.same c.drop_empty.ensures.last

out : (c : After-drop_empty) → has_bit (word_at c.open_full.new.full c.drop_empty.new.words.items) c.args.call ≡ false
out c =
    let set = c.self.inside in
    removed_out set.calls set.full c.open_full.new.full set.words.items c.open_full.new.words.items c.clear_bit.new.words.items c.drop_empty.new.words.items c.args.call c.self.invariant.window (bit_seen c.self.invariant c.self.view_is c.args.call ∙ c.requires) c.open_full.ensures.same c.in_ok-open_full.ensures.opened c.open_full.ensures.kept c.clear_bit.ensures c.drop_empty.ensures.same c.drop_empty.ensures.last

window : (c : After-drop_empty) → IsWindow c.self.inside.calls c.open_full.new.full c.drop_empty.new.words.items
window c =
    let set = c.self.inside in
    removed_window set.calls set.full c.open_full.new.full set.words.items c.open_full.new.words.items c.clear_bit.new.words.items c.drop_empty.new.words.items c.args.call c.self.invariant.window (bit_seen c.self.invariant c.self.view_is c.args.call ∙ c.requires) c.open_full.ensures.same c.in_ok-open_full.ensures.opened c.open_full.ensures.kept c.clear_bit.ensures c.drop_empty.ensures.same c.drop_empty.ensures.last

below : (c : After-drop_empty) → c.args.call < c.self.inside.calls
below c = call_there c.self.invariant c.self.view_is c.args.call c.requires

pub overflow_cast-self : goal.overflow_cast-self
overflow_cast-self c =
    let within = below (goal.at.overflow_cast-self c).After-drop_empty in
    omega (arith, within, c.self.invariant.few)

pub overflow_sub-self : goal.overflow_sub-self
overflow_sub-self c =
    let set = c.self.inside in
    let last = (goal.at.overflow_sub-self c).After-drop_empty in
    sum_holds set.calls set.full c.open_full.new.full set.words.items c.drop_empty.new.words.items set.hash set.sum c.args.call c.self.invariant (below last) (out last) (window last) (adds last)

pub invariant_of-self-2 : goal.invariant_of-self-2
invariant_of-self-2 c =
    let set = c.self.inside in
    let last = (goal.at.invariant_of-self-2 c).After-drop_empty in
    let small : c.weight.result < 2 ^ 64 = omega arith in
    kept_without set.calls set.full c.open_full.new.full set.words.items c.drop_empty.new.words.items set.hash set.sum c.args.call c.weight.result c.self.invariant (below last) (out last) (window last) (adds last) c.weight.ensures small

pub returns-clause-before : goal.returns-clause-before
returns-clause-before c =
    let set = c.self.inside in
    let last = (goal.at.returns-clause-before c).After-drop_empty in
    sym (flags_with set.calls c.open_full.new.full set.full c.drop_empty.new.words.items set.words.items c.args.call (below last) (adds last)) ∙ c.self.view_is

pub returns-clause-outside : goal.returns-clause-outside
returns-clause-outside c =
    let set = c.self.inside in
    let last = (goal.at.returns-clause-outside c).After-drop_empty in
    flag_is set.calls c.open_full.new.full c.drop_empty.new.words.items (window last) c.args.call ∙ out last
