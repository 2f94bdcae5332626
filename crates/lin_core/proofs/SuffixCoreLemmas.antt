-- What cores from an unknown beginning show of the whole.
use Rattle.std.proofs.Common.{◌≡◌, ℕ, zero, suc, ◌<◌, ◌≤◌, Bool, true, false, Option, Some, None, List, [], ◌∷◌, length, ◌⊎◌, inl, inr, refl, sym, ◌∙◌, ap, subst, arith}
use Rattle.std.specs.Prelude.{ℤ, pos, ◌||◌}
use Rattle.std.specs.List.{slice_get}
use Rattle.std.specs.Ordering.{int_eq}
use Rattle.std.specs.Cmp.{signed_Decides}
use Rattle.std.proofs.Math.Bool.{or-true}
use Rattle.lin_object.specs.declared.op.Op.{Op}
use Rattle.lin_object.specs.declared.reply.Reply.{Reply}
use Rattle.lin_object.specs.declared.state.ObjState.{ObjState}
use Rattle.lin_object.specs.declared.state.ObjState.TheVariants.{Register, Set, Mutex, Map}
use Rattle.lin_object.specs.contracts.state.ObjStatePartialEq.TheImpl.{eq-value as state_eq}
use Rattle.lin_object.specs.Items.{is_in}
use Rattle.lin_object.specs.Kinds.{after}
use Rattle.lin_object.specs.Kinds.Set.{SetLaw}
use Rattle.lin_object.specs.Kinds.Map.{MapLaw}
use Rattle.lin_history.specs.declared.problems.problem.ProblemCall.{ProblemCall}
use Rattle.lin_history.specs.Problems.Problem.{Problem}
use Rattle.lin_history.specs.Problems.ProblemParts.{ProblemParts}
use Rattle.lin_history.specs.Problems.AnyProblem.{any_problem}
use Rattle.lin_history.specs.Problems.Linearizations.{IsLinearization}
use Rattle.lin_core.specs.declared.selection.Later.{Later}
use Rattle.lin_core.specs.declared.selection.MapKey.{MapKey}
use Rattle.lin_core.specs.Windows.{call_in, AreWithin, OthersMayGo, AreEnoughWithin}
use Rattle.lin_core.specs.Suffixes.{part_from, HasBeginnings, IsBeginning, IsKeyBeginning}
use Rattle.lin_core.specs.Cores.{HasNone, SuffixCoreLaw}
use Rattle.lin_core.specs.KeyValues.{IsMap}
use Rattle.lin_core.specs.SuffixCores.{MayStayIn, MayGoIn, HasBeginningsIn, holding, holding_none, IsRefutedFrom, IsSuffixCore}
use Rattle.lin_core.proofs.SuffixLemmas.{suffix_values_law, suffix_key_values_law, suffix_key_law, suffix_key_later_law}

-- lists that have the same at each index
same_list : {A : Type 0} (xs ys : List A) → length xs ≡ length ys → ((i : ℕ) → i < length xs → slice_get xs i ≡ slice_get ys i) → xs ≡ ys
same_list [] [] e k = refl
same_list [] (y ∷ ys) e k = absurd (omega (arith, e))
same_list (x ∷ xs) [] e k = absurd (omega (arith, e))
same_list {A} (x ∷ xs) (y ∷ ys) e k = both (k 0 (omega arith)) (same_list xs ys (omega (arith, e)) (λ i h. k (suc i) (omega (arith, h))))
  where
    both : Some x ≡ Some y → xs ≡ ys → x ∷ xs ≡ y ∷ ys
    both f g = cc

-- the calls of a window are determined by their numbers
one_part : {State Op Reply : Type 0} (p : Problem State Op Reply) (from event : ℕ) (kept : List ℕ) (xs ys : List (ProblemCall Op Reply)) → AreWithin p from event kept xs → AreWithin p from event kept ys → xs ≡ ys
one_part {Op = Op} {Reply = Reply} p from event kept xs ys a b = same_list xs ys (a.count ∙ sym b.count) each
  where
    each : (i : ℕ) → i < length xs → slice_get xs i ≡ slice_get ys i
    each i h =
        let low : i < length kept = (let e = a.count in omega (arith, h, e)) in
        let k = a.each i low in
        let n = b.each i low in
        let same : k.0 ≡ n.0 = (let e = k.1 in let f = n.1 in one k.0 n.0 (sym e ∙ f)) in
        k.3 ∙ ap (λ (x : ProblemCall Op Reply). Some (call_in from event x)) same ∙ sym n.3
      where
        one : (x y : ProblemCall Op Reply) → Some x ≡ Some y → x ≡ y
        one x y e = cc

-- ---- the states that stand for all others

there : (v : ℤ) (values : List ℤ) → is_in v (v ∷ values) ≡ true
there v values = ap (λ (b : Bool). b || is_in v values) ((signed_Decides v v).1 refl)

behind : (other v : ℤ) (values : List ℤ) → is_in v values ≡ true → is_in v (other ∷ values) ≡ true
behind other v values h = ap (λ (b : Bool). int_eq other v || b) h ∙ or-true (int_eq other v)

with_item : (P : ObjState → Type 0) (other : ℤ) (values : List ℤ) → length values ≡ 1 → ((v : ℤ) → is_in v (other ∷ values) ≡ true → P (Set (v ∷ []))) → P (Set values)
with_item P other [] one each = absurd (omega (arith, one))
with_item P other (v ∷ []) one each = each v (behind other v (v ∷ []) (there v []))
with_item P other (v ∷ w ∷ rest) one each = absurd (omega (arith, one))

begun : (P : ObjState → Type 0) (other : ℤ) (values : List ℤ) (start u : ObjState) → HasBeginnings values start → P (holding_none start) → ((v : ℤ) → is_in v (other ∷ values) ≡ true → P (holding None start v)) → IsBeginning values start u → P u
begun P other values (Register z) u has nothing each k = elim k [
  | inl e ↦ subst P (sym e) nothing
  | inr r ↦ subst P (sym r.2) (each r.0 (behind other r.0 values r.1))
]
begun P other values (Set zs) u has nothing each k = elim k [
  | inl e ↦ subst P (sym e) nothing
  | inr e ↦ subst P (sym e) (with_item P other values has each)
]
begun P other values (Mutex holder) u has nothing each k = elim k [
  | inl e ↦ subst P (sym e) nothing
  | inr r ↦ subst P (sym r.2) (each (pos r.0) (behind other (pos r.0) values r.1))
]
begun P other values s u has nothing each k = absurd has

begun_at_key : (P : ObjState → Type 0) (at : MapKey) (other : ℤ) (values : List ℤ) (start u : ObjState) → IsMap start → P (holding_none start) → ((v : ℤ) → is_in v (other ∷ values) ≡ true → P (holding (Some at) start v)) → IsKeyBeginning at.key (other ∷ values) u → P u
begun_at_key P at other values (Map pairs) u is nothing each k = elim k [
  | inl e ↦ subst P (sym e) nothing
  | inr r ↦ subst P (sym r.2) (each r.0 r.1)
]
begun_at_key P at other values s u is nothing each k = absurd is

-- where nothing else is looked at, another value is one more
wider : (key other : ℤ) (values : List ℤ) (u : ObjState) → IsKeyBeginning key values u → IsKeyBeginning key (other ∷ values) u
wider key other values u k = elim k [ inl e ↦ inl e | inr r ↦ inr (r.0, behind other r.0 values r.1, r.2) ]

module _ {Object : Type 0} (sets : SetLaw after state_eq.it) (maps : MapLaw after state_eq.it) (parts : ProblemParts Object ObjState Op Reply) where
  abbrev A : Problem ObjState Op Reply
  A = any_problem parts

  against : (from event : ℕ) (key : Option MapKey) (values : List ℤ) (kept : List ℕ) (u : ObjState) (calls : List (ProblemCall Op Reply)) (m : List ℕ) → AreWithin A from event kept calls → IsRefutedFrom A from event key values kept u → IsLinearization (part_from A u calls) m → ⊥
  against from event key values kept u calls m within r lin = r.2 m (subst (λ (xs : List (ProblemCall Op Reply)). IsLinearization (part_from A u xs) m) (one_part A from event kept calls r.0 within r.1.within) lin)

  on_values : (from event : ℕ) (values : List ℤ) (kept : List ℕ) → IsSuffixCore A from event None values kept → HasNone A
  on_values from event values kept core l lin =
      let r = core.nothing in
      let left = suffix_values_law parts sets maps values from event kept r.0 core.begins r.1 l lin in
      against from event None values kept left.0 r.0 left.2 r.1.within (begun (IsRefutedFrom A from event None values kept) core.other values parts.start left.0 core.begins core.nothing core.each left.1) left.3

  at_key : (later : Option Later) (nothing : Bool) (from event : ℕ) (key : ℤ) (values : List ℤ) (kept : List ℕ) → IsSuffixCore A from event (Some (record { key = key; nothing = nothing; later = later })) values kept → HasNone A
  at_key None true from event key values kept core l lin =
      let at : MapKey = record { key = key; nothing = true; later = None } in
      let r = core.nothing in
      let left = suffix_key_law parts maps key core.other values from event kept r.0 core.begins.0 core.fresh r.1 l lin in
      against from event (Some at) values kept left.0 r.0 left.2 r.1.within (begun_at_key (IsRefutedFrom A from event (Some at) values kept) at core.other values parts.start left.0 core.begins.0 core.nothing core.each left.1) left.3
  at_key None false from event key values kept core l lin =
      let at : MapKey = record { key = key; nothing = false; later = None } in
      let r = core.nothing in
      let left = suffix_key_values_law parts maps key false values from event kept r.0 core.begins.0 r.1 l lin in
      against from event (Some at) values kept left.0 r.0 left.2 r.1.within (begun_at_key (IsRefutedFrom A from event (Some at) values kept) at core.other values parts.start left.0 core.begins.0 core.nothing core.each (wider key core.other values left.0 left.1)) left.3
  at_key (Some later) nothing from event key values kept core l lin =
      let at : MapKey = record { key = key; nothing = nothing; later = Some later } in
      let r = core.nothing in
      let left = suffix_key_later_law parts maps key core.other later.value values later.event from event kept r.0 core.begins.0 core.fresh core.begins.1 r.1 l lin in
      against from event (Some at) values kept left.0 r.0 left.2 r.1.within (begun_at_key (IsRefutedFrom A from event (Some at) values kept) at core.other values parts.start left.0 core.begins.0 core.nothing core.each left.1) left.3

  pub suffix_core_law : SuffixCoreLaw A
  suffix_core_law from event None values kept core l lin = on_values from event values kept core l lin
  suffix_core_law from event (Some at) values kept core l lin = at_key at.later at.nothing from event at.key values kept core l lin

-- ---- as the check finds it

module _ {Object : Type 0} (whole part : ProblemParts Object ObjState Op Reply) where
  pub refuted_from : (from event : ℕ) (key : Option MapKey) (values : List ℤ) (kept : List ℕ) (u : ObjState) → part.start ≡ u → AreEnoughWithin (any_problem whole) from event kept part.calls (MayStayIn key values) (MayGoIn key values) → HasNone (any_problem part) → IsRefutedFrom (any_problem whole) from event key values kept u
  refuted_from from event key values kept u start enough none = (part.calls, enough, subst (λ (s : ObjState). HasNone (record (any_problem part) { start = s })) start none)

-- a value of the list stands somewhere in it
place_of : (v : ℤ) (values : List ℤ) → is_in v values ≡ true → (i : ℕ) × (slice_get values i ≡ Some v)
place_of v [] e = absurd (cc)
place_of v (x ∷ xs) e = at (int_eq x v) refl (λ f. place_of v xs (sym (ap (λ (b : Bool). b || is_in v xs) f) ∙ e))
  where
    at : (b : Bool) → int_eq x v ≡ b → (int_eq x v ≡ false → (i : ℕ) × (slice_get xs i ≡ Some v)) → (i : ℕ) × (slice_get (x ∷ xs) i ≡ Some v)
    at true f rest = (0, ap Some ((signed_Decides x v).0 f))
    at false f rest = (let r = rest f in (suc r.0, r.1))

-- what holds of each value of the list
each_value : (P : ℤ → Type 0) (values : List ℤ) → ((i : ℕ) (v : ℤ) → slice_get values i ≡ Some v → P v) → (v : ℤ) → is_in v values ≡ true → P v
each_value P values k v h = let r = place_of v values h in k r.0 v r.1

-- the parts of it, for the same lists by other names
pub enough_within_as : (p : Problem ObjState Op Reply) (from event : ℕ) (key : Option MapKey) (calls : List (ProblemCall Op Reply)) (kept kept' : List ℕ) (values values' : List ℤ) → kept ≡ kept' → values ≡ values' → AreWithin p from event kept calls → ((i : ℕ) (x : ProblemCall Op Reply) → slice_get calls i ≡ Some x → MayStayIn key values x) → OthersMayGo p from event kept' (MayGoIn key values') → AreEnoughWithin p from event kept' calls (MayStayIn key values') (MayGoIn key values')
enough_within_as p from event key calls kept kept' values values' e f within stay go = record {
  within = subst (λ (l : List ℕ). AreWithin p from event l calls) e within;
  stay = subst (λ (vs : List ℤ). (i : ℕ) (x : ProblemCall Op Reply) → slice_get calls i ≡ Some x → MayStayIn key vs x) f stay;
  go = go;
}

-- the core that the checks find; the other value has two names
pub suffix_core : (p : Problem ObjState Op Reply) (from event : ℕ) (key : Option MapKey) (other passed : ℤ) (values : List ℤ) (kept : List ℕ) → is_in other values ≡ false → HasBeginningsIn key values p.start → IsRefutedFrom p from event key values kept (holding_none p.start) → IsRefutedFrom p from event key values kept (holding key p.start passed) → passed ≡ other → ((i : ℕ) (v : ℤ) → slice_get values i ≡ Some v → IsRefutedFrom p from event key values kept (holding key p.start v)) → IsSuffixCore p from event key values kept
suffix_core p from event key other passed values kept fresh begins nothing with_passed same each = record {
  other = other;
  fresh = fresh;
  begins = begins;
  nothing = nothing;
  each = λ v h. by v (int_eq other v) refl h;
}
  where
    with_other : IsRefutedFrom p from event key values kept (holding key p.start other)
    with_other = subst (λ (x : ℤ). IsRefutedFrom p from event key values kept (holding key p.start x)) same with_passed

    by : (v : ℤ) (b : Bool) → int_eq other v ≡ b → is_in v (other ∷ values) ≡ true → IsRefutedFrom p from event key values kept (holding key p.start v)
    by v true f h = subst (λ (x : ℤ). IsRefutedFrom p from event key values kept (holding key p.start x)) ((signed_Decides other v).0 f) with_other
    by v false f h = each_value (λ (x : ℤ). IsRefutedFrom p from event key values kept (holding key p.start x)) values each v (sym (ap (λ (b : Bool). b || is_in v values) f) ∙ h)
