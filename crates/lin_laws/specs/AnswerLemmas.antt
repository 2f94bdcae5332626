-- What a step answers, and that it fits what was recorded.
use Rattle.std.proofs.Common.{◌≡◌, ℕ, Bool, true, false, Option, Some, None, refl, ap, if◌then◌else◌}
use Rattle.lin_object.specs.declared.reply.Reply.{Reply}
use Rattle.lin_object.specs.declared.state.ObjState.{ObjState}
use Rattle.lin_history.specs.Problems.LegalLists.{fits, state_if_fits}

-- the answer is this state and this reply
abbrev pub Is : Option (ObjState × Reply) → ObjState → Reply → Type 0
Is answer m r = answer ≡ Some (m, r)

inside : {x y : ObjState × Reply} → ◌≡◌ {A = Option (ObjState × Reply)} (Some x) (Some y) → x ≡ y
inside e = cc

pub state_of : {s m : ObjState} {a r : Reply} → Is (Some (s, a)) m r → s ≡ m
state_of e = ap (λ (answer : ObjState × Reply). answer.0) (inside e)

pub reply_of : {s m : ObjState} {a r : Reply} → Is (Some (s, a)) m r → a ≡ r
reply_of e = ap (λ (answer : ObjState × Reply). answer.1) (inside e)

-- an answer that leads to a state fits
pub fits_some : (same : Reply → Reply → Bool) (answer : Option (ObjState × Reply)) (recorded : Option (ℕ × Reply)) (m : ObjState) → state_if_fits same recorded answer ≡ Some m → (r : Reply) × Is answer m r × (fits same r recorded ≡ true)
fits_some same None recorded m e = absurd (cc)
fits_some same (Some answer) recorded m e = go (fits same answer.1 recorded) refl e
  where
    go : (b : Bool) → fits same answer.1 recorded ≡ b → (if b then Some answer.0 else None) ≡ Some m → (r : Reply) × Is (Some answer) m r × (fits same r recorded ≡ true)
    go true f g = (answer.1, (let h : answer.0 ≡ m = cc in ap (λ (x : ObjState). Some (x, answer.1)) h), f)
    go false f g = absurd (cc)
