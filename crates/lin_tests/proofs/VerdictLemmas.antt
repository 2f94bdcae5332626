-- What a right verdict names is of its history.
use Rattle.std.proofs.Common.{ℕ, ◌<◌, List, [], ◌∷◌, length, inl, inr, subst}
use Rattle.std.proofs.lemmas.Option.{slice_get_within}
use Rattle.lin_object.specs.declared.reply.Reply.{Reply}
use Rattle.lin_object.specs.declared.state.ObjState.{ObjState}
use Rattle.lin_history.specs.declared.locality.placed.Placed.{Placed}
use Rattle.lin_history.specs.Recorder.RecordedHistory.{RecordedHistory}
use Rattle.lin_history.specs.Locality.Whole.{Replays, with_state}
use Rattle.lin_history.specs.Locality.JoinedOrder.{Places}
use Rattle.lin_history.specs.Locality.RecordedWhole.{whole_of, start_at}
use Rattle.lin_history.specs.Verifier.Flags.{AreKnown}
use Rattle.lin_workers.specs.Bounds.{Bounds}
use Rattle.lincheck.specs.declared.verdict.Verdict.{Verdict}
use Rattle.lincheck.specs.declared.verdict.Verdict.TheVariants.{Yes, No, NoInTime, Undecided}
use Rattle.lincheck.specs.Verdict.{IsVerdict, IsOf}

-- the calls of a list are known where its first and the rest are
known_more : (h : RecordedHistory) (x : Placed Reply) (xs : List (Placed Reply)) → x.call < length h.calls → AreKnown (whole_of h) xs → AreKnown (whole_of h) (x ∷ xs)
known_more h x xs first rest a there = elim there [
  | inl same ↦ subst (λ (n : ℕ). n < length h.calls) same first
  | inr more ↦ rest a more
]

replayed_known : (h : RecordedHistory) (states : ℕ → ObjState) (l : List (Placed Reply)) → Replays (whole_of h) states l → AreKnown (whole_of h) l
replayed_known h states [] r = λ a there. absurd there
replayed_known h states (x ∷ xs) r = known_more h x xs (slice_get_within h.calls x.call r.0 r.2.call) (replayed_known h (with_state (whole_of h) states r.0.object r.1) xs r.3)

placed_known : (h : RecordedHistory) (object : ℕ) (s : ObjState) (order : List ℕ) (l : List (Placed Reply)) → Places (whole_of h) object s order l → AreKnown (whole_of h) l
placed_known h object s [] [] p = λ a there. absurd there
placed_known h object s (c ∷ cs) (x ∷ xs) p = known_more h x xs (slice_get_within h.calls x.call p.1.0 p.1.2.call) (placed_known h object p.1.1 cs xs p.1.3)
placed_known h object s [] (x ∷ xs) p = absurd p
placed_known h object s (c ∷ cs) [] p = absurd p

-- a right verdict names calls and objects of the history
pub verdict_of : (h : RecordedHistory) (bounds : Bounds) (v : Verdict) → IsVerdict h bounds v → IsOf h v
verdict_of h bounds (Yes l) v = replayed_known h (start_at h) l v.1.legal
verdict_of h bounds (No object run) v = (v.0.0.declared, placed_known h object (start_at h object) v.0.1.order run.items v.0.1.placed)
verdict_of h bounds (NoInTime object) v = v.0.0.declared
verdict_of h bounds (Undecided object) v = v.declared
