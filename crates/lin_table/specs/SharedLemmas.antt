-- Lemmas on hands that grow, and on what they are told.
use Rattle.std.specs.Prelude.{◌≡◌, ◌≢◌, ℕ, [], ◌∷◌, ◌++◌, refl}
use Rattle.std.proofs.Common.{sym, ap, ◌∙◌, append-nil, append_assoc, rules}
use Rattle.lin_search.specs.declared.memo.Noted.{Noted}
use Rattle.lin_search.specs.declared.memo.Noted.TheVariants.{New, Known, Busy, NoRoom, Stranger}
use Rattle.lin_search.specs.Configuration.{Configuration}
use Rattle.lin_table.specs.Hand.{HandFacts, HasStored}
use Rattle.lin_table.specs.Home.{home_of}
use Rattle.lin_table.specs.Shared.{HasGrown, IsToldTo}

module _ {O S A R : Type 0} where
  pub grown_itself : (h : HandFacts O S A R) → HasGrown h h
  grown_itself h = record { table = refl; problem = refl; more = ([], sym (append-nil h.entries)) }

  pub grown_twice : (a b c : HandFacts O S A R) → HasGrown a b → HasGrown b c → HasGrown a c
  grown_twice a b c k m =
      let q = k.more in let r = m.more in
      record { table = m.table ∙ k.table; problem = m.problem ∙ k.problem; more = (q.0 ++ r.0, rw (r.1, q.1) (append_assoc a.entries q.0 r.0)) }

  grown_if_same : (a b : HandFacts O S A R) → b ≡ a → HasGrown a b
  grown_if_same a b same = rw same (grown_itself a)

  grown_if_stored : (a b : HandFacts O S A R) (shard : ℕ) (config : Configuration S) → HasStored a shard config b → HasGrown a b
  grown_if_stored a b shard config stored =
      record {
        table = ap (λ h. h.table) stored.1;
        problem = ap (λ h. h.problem) stored.1;
        more = (record { shard = shard; place = stored.0; config = config } ∷ [], ap (λ h. h.entries) stored.1);
      }

  -- whatever it is told
  pub grown_when_told : (ours : Type 0) (shards : ℕ) (config : Configuration S) (a : HandFacts O S A R) (noted : Noted) (b : HandFacts O S A R) → IsToldTo ours shards config a noted b → HasGrown a b
  grown_when_told ours shards config a New b told = grown_if_stored a b _ _ told.1
  grown_when_told ours shards config a Known b told = grown_if_same a b told.1
  grown_when_told ours shards config a Busy b told = grown_if_same a b told.1
  grown_when_told ours shards config a NoRoom b told = grown_if_same a b told.1
  grown_when_told ours shards config a Stranger b told = grown_if_same a b told.1

  pub told_of_ours : (ours : Type 0) (shards : ℕ) (config : Configuration S) (a : HandFacts O S A R) (noted : Noted) (b : HandFacts O S A R) → ours
      → (noted ≡ New → HasStored a (home_of config.lifted shards) config b) → (noted ≢ New → b ≡ a) → noted ≢ Stranger → IsToldTo ours shards config a noted b
  told_of_ours ours shards config a New b own new same here = (own, new refl)
  told_of_ours ours shards config a Known b own new same here = (own, same (search rules))
  told_of_ours ours shards config a Busy b own new same here = (own, same (search rules))
  told_of_ours ours shards config a NoRoom b own new same here = (own, same (search rules))
  told_of_ours ours shards config a Stranger b own new same here = absurd (here refl)
