-- The answer of a step, taken apart.
use Rattle.std.proofs.Common.{◌≡◌, Option, Some, None, ap}
use Rattle.lin_object.specs.declared.reply.Reply.{Reply}
use Rattle.lin_object.specs.declared.state.ObjState.{ObjState}

-- the answer is this state and this reply
abbrev pub Gives : Option (ObjState × Reply) → ObjState → Reply → Type 0
Gives answer m r = answer ≡ Some (m, r)

inside : {x y : ObjState × Reply} → ◌≡◌ {A = Option (ObjState × Reply)} (Some x) (Some y) → x ≡ y
inside e = cc

pub state_given : {s m : ObjState} {a r : Reply} → Gives (Some (s, a)) m r → s ≡ m
state_given e = ap (λ (answer : ObjState × Reply). answer.0) (inside e)

pub reply_given : {s m : ObjState} {a r : Reply} → Gives (Some (s, a)) m r → a ≡ r
reply_given e = ap (λ (answer : ObjState × Reply). answer.1) (inside e)

-- where there is no step, nothing is given
pub no_step : {m : ObjState} {r : Reply} → Gives None m r → ⊥
no_step e = cc
