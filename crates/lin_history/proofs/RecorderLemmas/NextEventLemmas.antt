-- A recording with one event more, beside its events.
use Rattle.std.proofs.Common.{◌≡◌, ℕ, ◌+◌, ◌<◌, ℤ, Bool, true, false, cond, not, Option, Some, None, is_none, is_some, IsSomeAnd, if◌then◌else◌, List, [], ◌∷◌, ◌++◌, map, find, length, refl, sym, ap, subst, ◌∙◌, arith, inl, inr, length-append}
use Rattle.std.proofs.lemmas.Bool.{eq-eqb}
use Rattle.std.proofs.lemmas.Bool.Decides.{eqb_tells}
use Rattle.lin_object.specs.declared.kind.Kind.{Kind}
use Rattle.lin_object.specs.declared.op.Op.{Op}
use Rattle.lin_object.specs.declared.reply.Reply.{Reply}
use Rattle.lin_history.specs.declared.recorder.fault.BuildFault.{BuildFault}
use Rattle.lin_history.specs.declared.recorder.fault.BuildFault.TheVariants.{BadName, UnknownObject, ProcessEnded, Busy, NoCall, OtherObject, TooManyCalls}
use Rattle.lin_history.specs.Refusals.{first_that_holds}
use Rattle.lin_history.specs.Recorder.Names.{is_name}
use Rattle.lin_history.specs.Recorder.Events.{Event, calls, returns_, fails, ends, Made, Outcome, pending, unknown, failed, replied, process_of, IsWellFormed, numbered, made_from}
use Rattle.lin_history.specs.Recorder.Recording.{Recording, IsRecordingOf, is_pending, is_unknown, is_pending_of, is_last_of, last_call, has_ended, is_elsewhere, index_named, is_full, call_refusals, end_refusals, settled, with_object, with_call}
use Rattle.lin_history.specs.Recorder.BuilderState.{process_refusals, pending_refusals}
use Rattle.lin_history.specs.Recorder.Found.{IsFound}
use Rattle.lin_history.specs.declared.recorder.found.FoundObject.{FoundObject}
use Rattle.lin_history.specs.Recorder.NextEvents.{Adds, AddsNone, CannotFollow}
use Rattle.lin_history.proofs.ListLemmas.{slice_get-push, slice_get-mapped}
use Rattle.lin_history.proofs.RecorderLemmas.EventLemmas.{idle, busy, over, Next, stage_of, Settles, made-call, made-end, numbered-append, may_follow, follows_by}

-- what is found among the calls of the recording is found among those of its events
found_in : (r : Recording) (events : List (Event Op Reply)) (p : ℕ) → IsRecordingOf events r → last_call r p ≡ find (is_last_of p) (made_from 1 events)
found_in r events p is = ap (find (is_last_of p)) is.made_are

-- a call is on the same object however it went on
object-settled : (p : ℕ) (x : Outcome Reply) (m : Made Op Reply) → (settled p x m).object ≡ m.object
object-settled p x m = elim (is_pending_of p m) as (λ b. (if b then record m { outcome = x } else m).object ≡ m.object) [ true ↦ refl | false ↦ refl ]

pub adds-object : (r : Recording) (name : List ℕ) (kind : Kind) (start : ℤ) → AddsNone r (with_object r name kind start)
adds-object r name kind start events is =
    record {
      well_formed = is.well_formed;
      made_are = is.made_are;
      count = is.count;
      declared = λ i m there. (let below = is.declared i m there in omega (arith, below, length-append r.objects ((record { name = name; kind = kind; start = start }) ∷ [])));
    }

-- ---- events that may come next

-- the event may come next, where its process stands so
follows : (r : Recording) (e : Event Op Reply) (events : List (Event Op Reply)) → IsRecordingOf events r → Next (stage_of (last_call r (process_of e))) e → IsWellFormed (events ++ e ∷ [])
follows r e events is next = may_follow events is.well_formed e (subst (λ o. Next (stage_of o) e) (found_in r events (process_of e) is) next)

pub adds-call : (r : Recording) (p object : ℕ) (op : Op) → last_call r p ≡ None → object < length r.objects → Adds r (calls p object op) (with_call r p object op)
adds-call r p object op none below events is =
    let start : Next {Op = Op} {Reply = Reply} idle (calls p object op) = tt in
    record {
      well_formed = follows r (calls p object op) events is (subst (λ o. Next {Op = Op} {Reply = Reply} (stage_of o) (calls p object op)) (sym none) start);
      made_are = ap (λ ms. ms ++ (record { process = p; object = object; op = op; called = r.events + 1; outcome = pending }) ∷ []) is.made_are
          ∙ sym (made-call 1 (r.events + 1) events p object op (let n = is.count in omega (arith, n)));
      count = (let n = is.count in let more = numbered-append events (calls p object op) in omega (arith, n, more));
      declared = λ i m there. elim (slice_get-push _ _ i m there) [ inl old ↦ is.declared i m old | inr new ↦ (let on = ap (λ x. x.object) new.1 in omega (arith, on, below)) ];
    }

-- the pending call of the process went on so, by this event
pub adds-end : (r : Recording) (p : ℕ) (e : Event Op Reply) (x : Outcome Reply) → Settles e p (r.events + 1) x → process_of e ≡ p → (more : ℕ) → more ≡ r.events + numbered (e ∷ [])
    → Next (stage_of (last_call r p)) e → Adds r e (record { objects = r.objects; made = map (settled p x) r.made; events = more })
adds-end r p e x settles own more numbers next events is =
    record {
      well_formed = follows r e events is (subst (λ q. Next (stage_of (last_call r q)) e) (sym own) next);
      made_are = ap (map (settled p x)) is.made_are ∙ sym (made-end e p (r.events + 1) x settles 1 events (let n = is.count in omega (arith, n)));
      count = (let n = is.count in let all = numbered-append events e in omega (arith, n, all, numbers));
      declared = λ i m there. (
          let was = slice_get-mapped (settled p x) r.made i m there in
          let below = is.declared i was.0 was.1 in
          let same = object-settled p x was.0 in
          let now = ap (λ y. y.object) was.2 in
          omega (arith, below, same, now));
    }

pending_outcome : {Reply : Type 0} (o : Outcome Reply) → is_pending o ≡ true → o ≡ pending
pending_outcome pending e = refl
pending_outcome unknown e = absurd (cc)
pending_outcome failed e = absurd (cc)
pending_outcome (replied n r) e = absurd (cc)

-- the parts of what it means to be the pending call of the process
pub pending_parts : (p : ℕ) (m : Made Op Reply) → is_pending_of p m ≡ true → (m.process ≡ p) × (m.outcome ≡ pending)
pending_parts p m e =
    elim (eqb_tells m.process p) [
      | inl h ↦ (let pends : is_pending m.outcome ≡ true = rw h.0 at e in (h.1, pending_outcome m.outcome pends))
      | inr h ↦ (let no : false ≡ true = rw h.0 at e in absurd (cc))
    ]

-- a process with a pending call on the object is at that stage
pub pending_stage : (m : Made Op Reply) (p object : ℕ) → is_pending_of p m ≡ true → m.object ≡ object → stage_of (Some m) ≡ busy object
pending_stage m p object pends on = let parts = pending_parts p m pends in rw (parts.1, on) refl

-- an event of the process that ends its pending call
pub record Ends (event : ℕ → Event Op Reply) (p : ℕ) : Type 0 where
  pub own : (o : ℕ) → process_of (event o) ≡ p
  pub idles : (o : ℕ) → Next idle (event o) → ⊥
  pub past : (o : ℕ) → Next over (event o) → ⊥
  pub here : (a o : ℕ) → Next (busy a) (event o) → a ≡ o
  pub next : (o : ℕ) → Next (busy o) (event o)

pub return_ends : (p : ℕ) (reply : Reply) → Ends (λ o. returns_ p o reply) p
return_ends p reply = record { own = λ o. refl; idles = λ o f. f; past = λ o f. f; here = λ a o f. f; next = λ o. refl }

pub fail_ends : (p : ℕ) → Ends (λ o. fails p o) p
fail_ends p = record { own = λ o. refl; idles = λ o f. f; past = λ o f. f; here = λ a o f. f; next = λ o. refl }

pub end_ends : (p : ℕ) → Ends (λ o. ends p o) p
end_ends p = record { own = λ o. refl; idles = λ o f. f; past = λ o f. f; here = λ a o f. f; next = λ o. refl }

-- ---- events that may not

-- the event may not come next, where its process does not stand so
cannot : (r : Recording) (e : Event Op Reply) → (Next (stage_of (last_call r (process_of e))) e → ⊥) → CannotFollow r e
cannot r e never events is after =
    never (subst (λ o. Next (stage_of o) e) (sym (found_in r events (process_of e) is)) (follows_by events is.well_formed e after))

-- a process that has a call which has neither returned nor failed may not call
no_call_at : (p object : ℕ) (op : Op) (m : Option (Made Op Reply)) → is_some m ≡ true → Next {Op = Op} {Reply = Reply} (stage_of m) (calls p object op) → ⊥
no_call_at p object op None some = absurd (cc)
no_call_at p object op (Some m) some = elim (is_unknown m.outcome) as (λ b. Next {Op = Op} {Reply = Reply} (if b then over else busy m.object) (calls p object op) → ⊥) [ true ↦ (λ f. f) | false ↦ (λ f. f) ]

pub no_call_while : (r : Recording) (p object : ℕ) (op : Op) → is_some (last_call r p) ≡ true → CannotFollow r (calls p object op)
no_call_while r p object op some = cannot r (calls p object op) (no_call_at p object op (last_call r p) some)

-- nor one that has ended
pub no_call_after : (r : Recording) (p object : ℕ) (op : Op) → has_ended (last_call r p) ≡ true → CannotFollow r (calls p object op)
no_call_after r p object op ended = no_call_while r p object op (there (last_call r p) ended)
  where
    there : (m : Option (Made Op Reply)) → has_ended m ≡ true → is_some m ≡ true
    there None e = absurd (cc)
    there (Some m) e = refl

-- what a refusal tells of the process
refusal : (a b c d e : Bool) (p : ℕ) (fault : BuildFault)
    → cond a (Some BadName) (cond b (Some UnknownObject) (cond c (Some (ProcessEnded p)) (cond d (Some (NoCall p)) (cond e (Some (OtherObject p)) None)))) ≡ Some fault
    → (fault ≡ ProcessEnded p → c ≡ true) × (fault ≡ NoCall p → d ≡ true) × (fault ≡ OtherObject p → e ≡ true)
refusal true b c d e p fault h = (λ k. absurd (cc), λ k. absurd (cc), λ k. absurd (cc))
refusal false true c d e p fault h = (λ k. absurd (cc), λ k. absurd (cc), λ k. absurd (cc))
refusal false false true d e p fault h = (λ k. refl, λ k. absurd (cc), λ k. absurd (cc))
refusal false false false true e p fault h = (λ k. absurd (cc), λ k. refl, λ k. absurd (cc))
refusal false false false false true p fault h = (λ k. absurd (cc), λ k. absurd (cc), λ k. refl)
refusal false false false false false p fault h = (λ k. absurd (cc), λ k. absurd (cc), λ k. absurd (cc))

module _ (event : ℕ → Event Op Reply) (p : ℕ) (is : Ends event p) where
  -- a process with no such call has none to end
  none_at : (o : ℕ) (m : Option (Made Op Reply)) → is_none m ≡ true → Next (stage_of m) (event o) → ⊥
  none_at o None e f = is.idles o f
  none_at o (Some m) e f = absurd (cc)

  -- one that has ended ends nothing
  over_at : (o : ℕ) (m : Option (Made Op Reply)) → has_ended m ≡ true → Next (stage_of m) (event o) → ⊥
  over_at o None e f = absurd (cc)
  over_at o (Some m) e f = let g : Next over (event o) = rw e at f in is.past o g

  -- and none ends a call on another object
  elsewhere_at : (o : ℕ) (m : Option (Made Op Reply)) → is_elsewhere (Some o) m ≡ true → Next (stage_of m) (event o) → ⊥
  elsewhere_at o None e f = absurd (cc)
  elsewhere_at o (Some m) e f =
      other (is_unknown m.outcome) f
    where
      same : m.object ≡ o → ⊥
      same k = let own = eq-eqb m.object o k in let no : not true ≡ true = rw own at e in absurd (cc)

      other : (b : Bool) → Next (if b then over else busy m.object) (event o) → ⊥
      other true g = is.past o g
      other false g = same (is.here m.object o g)

  at_process : (r : Recording) (o : ℕ) → (Next (stage_of (last_call r p)) (event o) → ⊥) → CannotFollow r (event o)
  at_process r o never = cannot r (event o) (subst (λ q. Next (stage_of (last_call r q)) (event o) → ⊥) (sym (is.own o)) never)

  module _ (r : Recording) (name : List ℕ) (fault : BuildFault) (refused : first_that_holds (end_refusals r p name) ≡ Some fault) where
    pub no_end-ended : fault ≡ ProcessEnded p → (o : ℕ) → CannotFollow r (event o)
    no_end-ended e o = at_process r o (over_at o (last_call r p) ((refusal _ _ _ _ _ p fault refused).0 e))

    pub no_end-none : fault ≡ NoCall p → (o : ℕ) → CannotFollow r (event o)
    no_end-none e o = at_process r o (none_at o (last_call r p) ((refusal _ _ _ _ _ p fault refused).1 e))

    pub no_end-elsewhere : fault ≡ OtherObject p → IsSomeAnd (index_named r name) (λ o. CannotFollow r (event o))
    no_end-elsewhere e = there (index_named r name) ((refusal _ _ _ _ _ p fault refused).2 e)
      where
        there : (i : Option ℕ) → is_elsewhere i (last_call r p) ≡ true → IsSomeAnd i (λ o. CannotFollow r (event o))
        there None k = absurd (cc)
        there (Some o) k = at_process r o (elsewhere_at o (last_call r p) k)

-- why a process may not call is why its call is refused
refused_more : (a b : Bool) (x y fault : BuildFault) (rest : Option BuildFault) → cond a (Some x) (cond b (Some y) None) ≡ Some fault → cond a (Some x) (cond b (Some y) rest) ≡ Some fault
refused_more true b x y fault rest e = e
refused_more false true x y fault rest e = e
refused_more false false x y fault rest e = absurd (cc)

pub call_refused : (r : Recording) (p : ℕ) (name : List ℕ) (object : ℕ) (fault : BuildFault) → is_name name ≡ true → index_named r name ≡ Some object
    → first_that_holds (process_refusals (last_call r p) p) ≡ Some fault → first_that_holds (call_refusals r p name) ≡ Some fault
call_refused r p name object fault valid named refused =
    rw (valid, named) (refused_more (has_ended (last_call r p)) (is_some (last_call r p)) (ProcessEnded p) (Busy p) fault (if is_full r (Some object) then Some TooManyCalls else None) refused)

-- and why there is no call to end on the object is why its end is refused
pub end_refused : (r : Recording) (p : ℕ) (found : FoundObject) (fault : BuildFault) → IsFound r found → first_that_holds (pending_refusals (last_call r p) p found.index) ≡ Some fault
    → first_that_holds (end_refusals r p found.name.now) ≡ Some fault
end_refused r p found fault is refused = rw (is.valid, is.named) refused
