-- What a memo of one problem keeps (Lowe 2017: no configuration is searched again).
use Rattle.std.specs.Prelude.{◌≡◌, Bool, List, [], ◌∷◌, ◌++◌}
use Rattle.lin_history.specs.Problems.Problem.{Problem}
use Rattle.lin_history.specs.Problems.ProblemParts.{ProblemParts}
use Rattle.lin_search.specs.declared.longest.Longest.{Longest}
use Rattle.lin_search.specs.declared.memo.Noted.{Noted}
use Rattle.lin_search.specs.declared.memo.Noted.TheVariants.{New, Known, Busy, NoRoom, Stranger}
use Rattle.lin_search.specs.Configuration.{Configuration}
use Rattle.lin_search.specs.Refutation.{IsRefutedWith}
use Rattle.lin_search.specs.Count.{Among, AllApart}

-- The problem that it names, and the pairs of a configuration and what its longest continuations tell, in order of storing.
pub record Store (Object State Op Reply : Type 0) : Type 0 where
  pub problem : ProblemParts Object State Op Reply
  pub pairs : List (Configuration State × Longest)

-- The configurations of the pairs.
abbrev pub configurations : {State : Type 0} → List (Configuration State × Longest) → List (Configuration State)
configurations [] = []
configurations (e ∷ es) = e.0 ∷ configurations es

-- One of the pairs is of this set and of a state equal to this one.
abbrev pub Holds : {State : Type 0} → (State → State → Bool) → List (Configuration State × Longest) → List Bool → State → Type 0
Holds same es set s = Among same (configurations es) set s

-- Each pair is of a refuted configuration of the problem, with its longest.
abbrev pub AllRefuted : {State Op Reply : Type 0} → Problem State Op Reply → List (Configuration State × Longest) → Type 0
AllRefuted p [] = Unit {0}
AllRefuted p (e ∷ es) = IsRefutedWith p e.0.lifted e.0.state e.1 × AllRefuted p es

-- What the pairs of a store always are: refuted, and no configuration is in two of them.
pub record IsStore {State Op Reply : Type 0} (p : Problem State Op Reply) (es : List (Configuration State × Longest)) : Type 0 where
  pub refuted : AllRefuted p es
  pub apart : AllApart p.same_state (configurations es)

-- What each answer says to one who hands over a pair, and what the pairs are then. `ours` is that the store names the problem of the pair.
abbrev pub IsNoted : {State : Type 0} → (State → State → Bool) → Type 0 → List (Configuration State × Longest) → List (Configuration State × Longest) → Configuration State → Longest → Noted → Type 0
IsNoted same ours old new config longest New = ours × (Holds same old config.lifted config.state → ⊥) × (new ≡ old ++ (config, longest) ∷ [])
IsNoted same ours old new config longest Known = ours × Holds same old config.lifted config.state × (new ≡ old)
IsNoted same ours old new config longest NoRoom = ours × (Holds same old config.lifted config.state → ⊥) × (new ≡ old)
IsNoted same ours old new config longest Stranger = (ours → ⊥) × (new ≡ old)
IsNoted same ours old new config longest Busy = ⊥

-- The store names the same problem, and more pairs may stand at its end.
pub record IsGrown {Object State Op Reply : Type 0} (old new : Store Object State Op Reply) : Type 0 where
  pub problem : new.problem ≡ old.problem
  pub more : (es : List (Configuration State × Longest)) × (new.pairs ≡ old.pairs ++ es)
