-- Precedence in real time (Herlihy and Wing 1990).
use Rattle.std.specs.Prelude.{ℕ, ◌<◌, slice_get, IsSome, IsSomeAnd}
use Rattle.lin_history.specs.Problems.Problem.{Problem}

-- Call a returned before call b was called; a pending call precedes nothing.
abbrev pub Before : {State Op Reply : Type 0} → Problem State Op Reply → ℕ → ℕ → Type 0
Before p a b = IsSomeAnd (slice_get p.calls a) (λ x. IsSomeAnd x.returned (λ r. IsSomeAnd (slice_get p.calls b) (λ y. r.0 < y.called)))

-- Call a has returned.
abbrev pub IsCompleted : {State Op Reply : Type 0} → Problem State Op Reply → ℕ → Type 0
IsCompleted p a = IsSomeAnd (slice_get p.calls a) (λ x. IsSome x.returned)
