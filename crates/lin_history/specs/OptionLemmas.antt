-- Small lemmas on options, which the crates above cite too.
use Rattle.std.proofs.Common.{◌≡◌, false, Option, Some, None, IsSome, is_some, refl}
use Rattle.std.specs.Prelude.{IsSomeAnd}

-- An option with a value that has a property has a value.
pub some_and : {A : Type 0} (o : Option A) (P : A → Type 0) → IsSomeAnd o P → (x : A) × (o ≡ Some x) × P x
some_and None P h = absurd h
some_and (Some x) P h = (x, refl, h)

pub and_some : {A : Type 0} (o : Option A) (P : A → Type 0) (x : A) → o ≡ Some x → P x → IsSomeAnd o P
and_some o P x e h = rw e h

-- A property that gives another one.
pub some_more : {A : Type 0} (o : Option A) (P Q : A → Type 0) → ((x : A) → P x → Q x) → IsSomeAnd o P → IsSomeAnd o Q
some_more None P Q f p = absurd p
some_more (Some x) P Q f p = f x p

-- An option that is some value, or that is none.
pub some_is : {A : Type 0} (o : Option A) (x : A) → o ≡ Some x → IsSome o
some_is o x e = rw e refl

pub none_has_none : {A : Type 0} (o : Option A) → o ≡ None → IsSome o → ⊥
none_has_none None e some = absurd (cc)
none_has_none (Some x) e some = absurd (cc)

pub none_of : {A : Type 0} (o : Option A) → is_some o ≡ false → o ≡ None
none_of None h = refl
none_of (Some x) h = absurd (cc)
