-- A seat's fields and what contracts see of it, after each step.
use Rattle.std.proofs.lemmas.Bool.{cases_eq}
use Rattle.std.proofs.Common.{◌≡◌, ◌≢◌, ⊎_elim, ℕ, ◌+◌, Bool, true, false, [], ◌∷◌, ◌++◌, length, sym, ap, ◌∙◌, subst, arith, length-append, All, Contains}
use Rattle.std.proofs.lemmas.List.Elements.{All-push, All-weaker, Contains-append_left}
use Rattle.lin_board.specs.Lists.Totals.{one_if}
use Rattle.lin_board.specs.declared.rule.View.{View}
use Rattle.lin_board.specs.Rule.{nothing_found}
use Rattle.lin_board.specs.Steps.{Holder, LeastTells, with_claim, with_end, with_found, with_told}
use Rattle.lin_board.specs.Seat.{IsOneSeat}

module _ (before after : Holder) (claims : ℕ) (ended : Bool) (slots : after.1 ≡ before.1) (h : IsOneSeat before claims ended) where
  pub claimed_seat : (x : ℕ) → after.0 ≡ with_claim before.0 x → IsOneSeat after (claims + 1) ended
  claimed_seat x e = record {
    parts = ap (λ (v : View). v.parts) e ∙ h.parts;
    ends = ap (λ (v : View). v.ends) e ∙ h.ends;
    count = let a = h.count in let b = ap (λ (v : View). length v.claimed) e in let d = length-append before.0.claimed (x ∷ []) in omega arith;
    among = subst (λ (v : View). All (Contains v.claimed) v.found) (sym e)
        (All-weaker (Contains before.0.claimed) (Contains (before.0.claimed ++ x ∷ [])) (λ y. Contains-append_left before.0.claimed (x ∷ []) y) before.0.found h.among);
    slots = slots ∙ h.slots;
  }

  pub ended_seat : ended ≡ false → after.0 ≡ with_end before.0 → IsOneSeat after claims true
  ended_seat not_ended e = record {
    parts = ap (λ (v : View). v.parts) e ∙ h.parts;
    ends = ap (λ (v : View). v.ends) e ∙ ap (λ (n : ℕ). n + 1) (h.ends ∙ ap one_if not_ended);
    count = h.count ∙ sym (ap (λ (v : View). length v.claimed) e);
    among = subst (λ (v : View). All (Contains v.claimed) v.found) (sym e) h.among;
    slots = slots ∙ h.slots;
  }

  pub found_seat : (x : ℕ) → Contains before.0.claimed x → after.0 ≡ with_found before.0 x → IsOneSeat after claims ended
  found_seat x mine e = record {
    parts = ap (λ (v : View). v.parts) e ∙ h.parts;
    ends = ap (λ (v : View). v.ends) e ∙ h.ends;
    count = h.count ∙ sym (ap (λ (v : View). length v.claimed) e);
    among = subst (λ (v : View). All (Contains v.claimed) v.found) (sym e) (All-push (Contains before.0.claimed) before.0.found x h.among mine);
    slots = slots ∙ h.slots;
  }

  pub told_seat : (x : ℕ) → after.0 ≡ with_told before.0 x → IsOneSeat after claims ended
  told_seat x e = record {
    parts = ap (λ (v : View). v.parts) e ∙ h.parts;
    ends = ap (λ (v : View). v.ends) e ∙ h.ends;
    count = h.count ∙ sym (ap (λ (v : View). length v.claimed) e);
    among = subst (λ (v : View). All (Contains v.claimed) v.found) (sym e) h.among;
    slots = slots ∙ h.slots;
  }

  pub same_seat : after.0 ≡ before.0 → IsOneSeat after claims ended
  same_seat e = record {
    parts = ap (λ (v : View). v.parts) e ∙ h.parts;
    ends = ap (λ (v : View). v.ends) e ∙ h.ends;
    count = h.count ∙ sym (ap (λ (v : View). length v.claimed) e);
    among = subst (λ (v : View). All (Contains v.claimed) v.found) (sym e) h.among;
    slots = slots ∙ h.slots;
  }

-- after a look at the least, whatever it told
pub looked_seat : (before after : Holder) (claims : ℕ) (ended : Bool) (number : ℕ) → LeastTells before number after → IsOneSeat before claims ended → IsOneSeat after claims ended
looked_seat before after claims ended number tells h =
    ⊎_elim
    (λ (e : number ≡ nothing_found). same_seat before after claims ended tells.slots h (tells.same e))
    (λ (ne : number ≢ nothing_found). told_seat before after claims ended tells.slots h number (tells.some ne))
    (cases_eq number nothing_found)
