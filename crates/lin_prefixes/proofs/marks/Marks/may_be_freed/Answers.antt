use Rattle.std.proofs.Common.{◌≡◌, true, inl, inr, sym, ◌∙◌, subst, true≢false, rules, w64, to_z, of_z}
use Rattle.std.specs.Prelude.{ℤ}
use Rattle.std.specs.Ordering.{int_eq}
use Rattle.indexmap.specs.IndexSet.{contains}
use Rattle.lin_prefixes.proofs.marks.Marks.may_be_freed.Goals as goal

pub returns-in-Some : goal.returns-in-Some
returns-in-Some c = λ kept takers marked freed. elim freed [
  | inl taker ↦ absurd (true≢false (sym (marked.each_taker c.args.call taker c.requires) ∙ sym c.is_taker.ensures ∙ c.if-is_taker.false))
  | inr q ↦ (
      let same : to_z w64 (of_z w64 c.in-Some.item) ≡ c.in-Some.item = search rules in
      let put = c.item_put.ensures q.1 q.4 in
      let is = c.in-Some.is in
      let item : q.1 ≡ c.in-Some.item = cc in
      c.contains.ensures ∙ subst (λ (v : ℤ). contains int_eq c.args.self.now.items v ≡ true) (item ∙ sym same) (marked.each_item q.0 q.2 q.1 q.3)
      )
]

pub returns-in-None : goal.returns-in-None
returns-in-None c = λ kept takers marked freed. elim freed [
  | inl taker ↦ absurd (true≢false (sym (marked.each_taker c.args.call taker c.requires) ∙ sym c.is_taker.ensures ∙ c.if-is_taker.false))
  | inr q ↦ absurd (let put = c.item_put.ensures q.1 q.4 in let is = c.in-None.is in cc)
]
