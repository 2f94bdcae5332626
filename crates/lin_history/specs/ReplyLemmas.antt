-- Replies that their own `Eq` calls equal are the same.
use Rattle.std.specs.Prelude.{◌≡◌, Bool, true, false}
use Rattle.std.proofs.Common.{refl, ap}
use Rattle.std.specs.Cmp.{signed_Decides}
use Rattle.lin_object.specs.declared.reply.Reply.{Reply}
use Rattle.lin_object.specs.declared.reply.Reply.TheVariants.{Okay, Int, Flag, Empty}
use Rattle.lin_object.specs.contracts.reply.ReplyPartialEq.TheImpl.{eq-value as reply_eq}

flag_same : (a b : Bool) → reply_eq.it (Flag a) (Flag b) ≡ true → a ≡ b
flag_same true true e = refl
flag_same false false e = refl
flag_same true false e = absurd (cc)
flag_same false true e = absurd (cc)

pub reply_same : (a b : Reply) → reply_eq.it a b ≡ true → a ≡ b
reply_same Okay Okay e = refl
reply_same (Int v) (Int w) e = ap Int ((signed_Decides v w).0 e)
reply_same (Flag a) (Flag b) e = ap Flag (flag_same a b e)
reply_same Empty Empty e = refl
reply_same a b e = absurd (cc)
