-- Worked histories of one register: what the definitions say of them.
use Rattle.std.proofs.Common.{◌≡◌, ℕ, zero, suc, ◌<◌, ◌==◌, Bool, true, false, List, [], ◌∷◌, ◌++◌, Option, Some, None, ◌⊎◌, inl, inr, refl, sym, ap, subst, ◌∙◌, eqb-true, arith}
use Rattle.std.specs.Prelude.{ℤ, pos}
use Rattle.std.specs.List.{slice_get}
use Rattle.lin_object.specs.declared.kind.Kind.TheVariants as kinds
use Rattle.lin_object.specs.declared.op.Op.{Op}
use Rattle.lin_object.specs.declared.op.Op.TheVariants.{Write, Read}
use Rattle.lin_object.specs.declared.reply.Reply.{Reply}
use Rattle.lin_object.specs.declared.reply.Reply.TheVariants.{Okay, Int}
use Rattle.lin_object.specs.declared.state.ObjState.{ObjState}
use Rattle.lin_object.specs.declared.state.ObjState.TheVariants.{Register}
use Rattle.lin_object.specs.contracts.reply.ReplyPartialEq.TheImpl.{eq-value as reply_eq}
use Rattle.lin_object.specs.contracts.state.ObjStatePartialEq.TheImpl.{eq-value as state_eq}
use Rattle.lin_object.specs.Kinds.{after}
use Rattle.lin_history.specs.declared.locality.placed.Placed.{Placed}
use Rattle.lin_history.specs.declared.problems.problem.ProblemCall.{ProblemCall}
use Rattle.lin_history.specs.Problems.Lists.{In, IsUpTo, IsLeast}
use Rattle.lin_history.specs.Recorder.Events.{Event, calls, returns_, fails, ends, Call, events_of, IsSequential, IsWellFormed, calls_from}
use Rattle.lin_history.specs.Recorder.RecordedHistory.{RecordedHistory, IsHistoryOf}
use Rattle.lin_history.specs.Problems.Problem.{Problem}
use Rattle.lin_history.specs.Problems.Precedence.{Before, IsCompleted}
use Rattle.lin_history.specs.Problems.LegalLists.{fits, next, Legal}
use Rattle.lin_history.specs.Problems.Continuations.{has, no_calls}
use Rattle.lin_history.specs.Problems.Linearizations.{IsLinearization}
use Rattle.lin_history.specs.Locality.Whole.{Precedes, HasReturned, Has, IsLinearizationOfWhole}
use Rattle.lin_history.specs.Locality.RecordedWhole.{start_at, whole_of, part_of}
use Rattle.lin_history.specs.Locality.JoinedOrder.{point, point_after}
use Rattle.lin_history.specs.Locality.PartLemmas.{part_of_whole}
use Rattle.lin_history.specs.Locality.OrderLemmas.{order_by_part}

not_some : {A : Type 0} (x : A) → ◌≡◌ {A = Option A} None (Some x) → ⊥
not_some x e = absurd (cc)

same_some : {A : Type 0} (x y : A) → ◌≡◌ {A = Option A} (Some x) (Some y) → x ≡ y
same_some x y e = cc

not_same : (a b : ℕ) (t : Bool) → (a == b) ≡ t → (a ≡ b → ⊥) → (a == b) ≡ false
not_same a b true e f = absurd (f (eqb-true a b e))
not_same a b false e f = e

-- Two calls that overlap: a read returns the value of a write that returns after it.
abbrev pub overlap_events : List (Event Op Reply)
overlap_events = calls 1 0 (Write (pos 1)) ∷ calls 2 0 Read ∷ returns_ 2 0 (Int (pos 1)) ∷ returns_ 1 0 Okay ∷ []

-- The write of those events, with the numbers of its call and of its return.
abbrev pub write_call : Call Op Reply
write_call = record { process = 1; object = 0; op = Write (pos 1); called = 1; returned = Some (4, Okay) }

-- The read of those events.
abbrev pub read_call : Call Op Reply
read_call = record { process = 2; object = 0; op = Read; called = 2; returned = Some (3, Int (pos 1)) }

-- The calls of those events, in the order of their call events.
abbrev pub overlap_calls : List (Call Op Reply)
overlap_calls = write_call ∷ read_call ∷ []

-- The events give those calls.
pub overlap : calls_from 1 overlap_events ≡ overlap_calls
overlap = refl

-- A call that never returns is pending.
pub pending_call : calls_from 1 (calls 1 0 (Write (pos 1)) ∷ calls 2 0 Read ∷ returns_ 2 0 (Int (pos 1)) ∷ []) ≡
    (record { process = 1; object = 0; op = Write (pos 1); called = 1; returned = None })
    ∷ (record { process = 2; object = 0; op = Read; called = 2; returned = Some (3, Int (pos 1)) })
    ∷ []
pending_call = refl

-- A return belongs to the last call of its process before it, not to an earlier one that has returned.
pub two_in_turn : calls_from 1 (calls 1 0 (Write (pos 1)) ∷ returns_ 1 0 Okay ∷ calls 1 0 Read ∷ returns_ 1 0 (Int (pos 1)) ∷ []) ≡
    (record { process = 1; object = 0; op = Write (pos 1); called = 1; returned = Some (2, Okay) })
    ∷ (record { process = 1; object = 0; op = Read; called = 3; returned = Some (4, Int (pos 1)) })
    ∷ []
two_in_turn = refl

others : (p : ℕ) → IsSequential (events_of (suc (suc (suc p))) overlap_events)
others p =
    let one : (1 == suc (suc (suc p))) ≡ false = not_same 1 (suc (suc (suc p))) (1 == suc (suc (suc p))) refl (λ e. absurd (omega (arith, e))) in
    let two : (2 == suc (suc (suc p))) ≡ false = not_same 2 (suc (suc (suc p))) (2 == suc (suc (suc p))) refl (λ e. absurd (omega (arith, e))) in
    rw (one, two) tt

-- The events of the two calls that overlap are well-formed.
pub overlap_well_formed : IsWellFormed overlap_events
overlap_well_formed zero = tt
overlap_well_formed (suc zero) = (refl, tt)
overlap_well_formed (suc (suc zero)) = (refl, tt)
overlap_well_formed (suc (suc (suc p))) = others p

abbrev two_at_once : List (Event Op Reply)
two_at_once = calls 1 0 (Write (pos 1)) ∷ calls 1 0 Read ∷ []

-- A process that calls twice with no return between the two calls is not well-formed.
pub two_calls_at_once : IsWellFormed two_at_once → ⊥
two_calls_at_once w = w 1

abbrev elsewhere : List (Event Op Reply)
elsewhere = calls 1 0 (Write (pos 1)) ∷ returns_ 1 1 Okay ∷ []

-- A return from another object than the one called is not well-formed.
pub return_elsewhere : IsWellFormed elsewhere → ⊥
return_elsewhere w = absurd (let e = (w 1).0 in cc)

abbrev no_call_before : List (Event Op Reply)
no_call_before = returns_ 1 0 Okay ∷ []

-- A return with no call before it is not well-formed.
pub return_of_no_call : IsWellFormed no_call_before → ⊥
return_of_no_call w = w 1

abbrev failed_first : List (Event Op Reply)
failed_first = calls 1 0 (Write (pos 1)) ∷ fails 1 0 ∷ calls 1 0 Read ∷ returns_ 1 0 (Int (pos 0)) ∷ []

-- A call that failed is no call of the history; a later return of its process belongs to the call after it.
pub failed_call : calls_from 1 failed_first ≡ (record { process = 1; object = 0; op = Read; called = 2; returned = Some (3, Int (pos 0)) }) ∷ []
failed_call = refl

-- A process may call again after its call failed.
pub call_after_failure : IsSequential (events_of 1 failed_first)
call_after_failure = (refl, (refl, tt))

-- Where a process ended, its call stays pending, and the end has no number.
pub unknown_call : calls_from 1 (calls 1 0 (Write (pos 1)) ∷ ends 1 0 ∷ calls 2 0 Read ∷ returns_ 2 0 (Int (pos 1)) ∷ []) ≡
    (record { process = 1; object = 0; op = Write (pos 1); called = 1; returned = None })
    ∷ (record { process = 2; object = 0; op = Read; called = 2; returned = Some (3, Int (pos 1)) })
    ∷ []
unknown_call = refl

abbrev after_end : List (Event Op Reply)
after_end = calls 1 0 (Write (pos 1)) ∷ ends 1 0 ∷ calls 1 0 Read ∷ []

-- A process that has ended has no event more.
pub call_after_end : IsWellFormed after_end → ⊥
call_after_end w = w 1

abbrev fails_elsewhere : List (Event Op Reply)
fails_elsewhere = calls 1 0 (Write (pos 1)) ∷ fails 1 1 ∷ []

-- A failure on another object than the one called is not well-formed.
pub failure_elsewhere : IsWellFormed fails_elsewhere → ⊥
failure_elsewhere w = absurd (let e = (w 1).0 in cc)

abbrev fails_alone : List (Event Op Reply)
fails_alone = fails 1 0 ∷ []

-- A failure with no call before it is not well-formed.
pub failure_of_no_call : IsWellFormed fails_alone → ⊥
failure_of_no_call w = w 1

abbrev fails_twice : List (Event Op Reply)
fails_twice = calls 1 0 (Write (pos 1)) ∷ fails 1 0 ∷ returns_ 1 0 Okay ∷ []

-- A call that failed returns no more.
pub return_after_failure : IsWellFormed fails_twice → ⊥
return_after_failure w = (w 1).1

-- A problem of one register that starts at 0, with these calls.
abbrev pub register_of : List (ProblemCall Op Reply) → Problem ObjState Op Reply
register_of cs = record { after = after; same_state = state_eq.it; same_reply = reply_eq.it; start = Register (pos 0); calls = cs }

-- The two calls that overlap, as a problem.
abbrev pub overlap_problem : Problem ObjState Op Reply
overlap_problem = register_of (
    (record { process = 1; op = Write (pos 1); called = 1; returned = Some (4, Okay) })
    ∷ (record { process = 2; op = Read; called = 2; returned = Some (3, Int (pos 1)) })
    ∷ [])

-- The write and then the read is a legal list, and leaves 1.
pub write_read_legal : Legal overlap_problem (Register (pos 0)) (0 ∷ 1 ∷ []) (Register (pos 1))
write_read_legal = (Register (pos 1), refl, (Register (pos 1), refl, refl))

-- The read first has no step with its recorded reply, for it would reply 0.
pub read_first_none : next overlap_problem (Register (pos 0)) 1 ≡ None
read_first_none = refl

-- The read and then the write is not a legal list.
pub read_write_not_legal : (t : ObjState) → Legal overlap_problem (Register (pos 0)) (1 ∷ 0 ∷ []) t → ⊥
read_write_not_legal t l = not_some l.0 l.1

-- A write and, after its return, a read with the old value.
abbrev pub stale_problem : Problem ObjState Op Reply
stale_problem = register_of (
    (record { process = 1; op = Write (pos 1); called = 1; returned = Some (2, Okay) })
    ∷ (record { process = 2; op = Read; called = 3; returned = Some (4, Int (pos 0)) })
    ∷ [])

-- The write precedes the read.
pub write_before_read : Before stale_problem 0 1
write_before_read = omega arith

-- The read does not precede the write.
pub read_not_before_write : Before stale_problem 1 0 → ⊥
read_not_before_write b = absurd (omega (arith, b))

-- A list that has the read before the write that precedes it is no linearization.
pub stale_read_first : IsLinearization stale_problem (1 ∷ 0 ∷ []) → ⊥
stale_read_first l = elim (l.continuation.ordered [] 1 (0 ∷ []) refl 0 write_before_read) [ inl e ↦ absurd (cc) | inr i ↦ absurd i ]

-- The read and then the write is a legal list of that problem, though no linearization.
pub stale_read_first_legal : Legal stale_problem (Register (pos 0)) (1 ∷ 0 ∷ []) (Register (pos 1))
stale_read_first_legal = (Register (pos 0), refl, (Register (pos 1), refl, refl))

-- The write and then the read is no linearization of that problem, for the read would reply 1.
pub stale_read_last : IsLinearization stale_problem (0 ∷ 1 ∷ []) → ⊥
stale_read_last l =
    let e = l.continuation.legal.1 in
    let same : Register (pos 1) ≡ e.0 = same_some (Register (pos 1)) e.0 e.1 in
    not_some e.2.0 (subst (λ s. next stale_problem s 1 ≡ Some e.2.0) (sym same) e.2.1)

-- A list that leaves out a completed call is no linearization.
pub stale_write_left_out : IsLinearization stale_problem (1 ∷ []) → ⊥
stale_write_left_out l = elim (l.complete 0 refl) [ inl e ↦ absurd (cc) | inr i ↦ elim i [ inl e ↦ absurd (cc) | inr n ↦ absurd n ] ]

-- A list that has a call twice is no linearization.
pub write_twice : IsLinearization stale_problem (1 ∷ 0 ∷ 0 ∷ []) → ⊥
write_twice l = l.continuation.distinct.1.0 (inl refl)

-- A write that is pending, and a read that has seen it.
abbrev pub seen_problem : Problem ObjState Op Reply
seen_problem = register_of (
    (record { process = 1; op = Write (pos 1); called = 1; returned = None })
    ∷ (record { process = 2; op = Read; called = 2; returned = Some (3, Int (pos 1)) })
    ∷ [])

-- A pending call precedes nothing.
pub pending_before_none : (b : ℕ) → Before seen_problem 0 b → ⊥
pending_before_none b h = h

seen_no_before : (a b : ℕ) → Before seen_problem a b → ⊥
seen_no_before zero b h = h
seen_no_before (suc zero) zero h = absurd (omega (arith, h))
seen_no_before (suc zero) (suc zero) h = absurd (omega (arith, h))
seen_no_before (suc zero) (suc (suc b)) h = absurd h
seen_no_before (suc (suc a)) b h = absurd h

first_out : (c : ℕ) → In c (0 ∷ 1 ∷ []) → has (false ∷ false ∷ []) c ≡ false
first_out zero i = refl
first_out (suc zero) i = refl
first_out (suc (suc c)) i = refl

seen_complete : (c : ℕ) → IsCompleted seen_problem c → (has (no_calls seen_problem) c ≡ true) ⊎ In c (0 ∷ 1 ∷ [])
seen_complete zero d = inr (inl refl)
seen_complete (suc zero) d = inr (inr (inl refl))
seen_complete (suc (suc c)) d = absurd d

-- A pending call may take effect: the write and then the read is a linearization.
pub pending_takes_effect : IsLinearization seen_problem (0 ∷ 1 ∷ [])
pending_takes_effect = record {
  continuation = record {
    distinct = ((λ i. elim i [ inl e ↦ absurd (cc) | inr n ↦ absurd n ]), ((λ n. n), tt));
    outside = first_out;
    legal = (Register (pos 1), (Register (pos 1), refl, (Register (pos 1), refl, refl)));
    ordered = λ early b late e a h. absurd (seen_no_before a b h);
  };
  complete = seen_complete;
}

-- A write that is pending, and a read that has not seen it.
abbrev pub missed_problem : Problem ObjState Op Reply
missed_problem = register_of (
    (record { process = 1; op = Write (pos 1); called = 1; returned = None })
    ∷ (record { process = 2; op = Read; called = 2; returned = Some (3, Int (pos 0)) })
    ∷ [])

missed_no_before : (a b : ℕ) → Before missed_problem a b → ⊥
missed_no_before zero b h = h
missed_no_before (suc zero) zero h = absurd (omega (arith, h))
missed_no_before (suc zero) (suc zero) h = absurd (omega (arith, h))
missed_no_before (suc zero) (suc (suc b)) h = absurd h
missed_no_before (suc (suc a)) b h = absurd h

none_in : (c : ℕ) → has (false ∷ false ∷ []) c ≡ false
none_in zero = refl
none_in (suc zero) = refl
none_in (suc (suc c)) = refl

missed_complete : (c : ℕ) → IsCompleted missed_problem c → (has (no_calls missed_problem) c ≡ true) ⊎ In c (1 ∷ [])
missed_complete zero d = absurd (cc)
missed_complete (suc zero) d = inr (inl refl)
missed_complete (suc (suc c)) d = absurd d

-- A pending call may be left out: the read alone is a linearization.
pub pending_left_out : IsLinearization missed_problem (1 ∷ [])
pending_left_out = record {
  continuation = record {
    distinct = ((λ n. n), tt);
    outside = λ c i. none_in c;
    legal = (Register (pos 0), (Register (pos 0), refl, refl));
    ordered = λ early b late e a h. absurd (missed_no_before a b h);
  };
  complete = missed_complete;
}

-- A pending call may take effect after a read that has not seen it.
pub pending_takes_effect_last : IsLinearization missed_problem (1 ∷ 0 ∷ [])
pending_takes_effect_last = record {
  continuation = record {
    distinct = ((λ i. elim i [ inl e ↦ absurd (cc) | inr n ↦ absurd n ]), ((λ n. n), tt));
    outside = λ c i. none_in c;
    legal = (Register (pos 1), (Register (pos 0), refl, (Register (pos 1), refl, refl)));
    ordered = λ early b late e a h. absurd (missed_no_before a b h);
  };
  complete = λ c d. elim (missed_complete c d) [ inl e ↦ inl e | inr i ↦ elim i [ inl e ↦ inr (inl e) | inr n ↦ absurd n ] ];
}

-- Where the read has seen the pending write, the read alone is no linearization.
pub seen_read_alone : IsLinearization seen_problem (1 ∷ []) → ⊥
seen_read_alone l = let e = l.continuation.legal.1 in not_some e.0 e.1

-- A write and, after its return, a read with the new value.
abbrev pub fresh_problem : Problem ObjState Op Reply
fresh_problem = register_of (
    (record { process = 1; op = Write (pos 1); called = 1; returned = Some (2, Okay) })
    ∷ (record { process = 2; op = Read; called = 3; returned = Some (4, Int (pos 1)) })
    ∷ [])

fresh_before : (a b : ℕ) → Before fresh_problem a b → (a ≡ 0) × (b ≡ 1)
fresh_before zero zero h = absurd (omega (arith, h))
fresh_before zero (suc zero) h = (refl, refl)
fresh_before zero (suc (suc b)) h = absurd h
fresh_before (suc zero) zero h = absurd (omega (arith, h))
fresh_before (suc zero) (suc zero) h = absurd (omega (arith, h))
fresh_before (suc zero) (suc (suc b)) h = absurd h
fresh_before (suc (suc a)) b h = absurd h

in_front : (early : List ℕ) (b : ℕ) (late : List ℕ) → 0 ∷ 1 ∷ [] ≡ early ++ b ∷ late → b ≡ 1 → In 0 early
in_front [] b late e is = absurd (let f : 0 ≡ b = cc in let g : 0 ≡ 1 = f ∙ is in cc)
in_front (x ∷ xs) b late e is = inl (cc)

fresh_complete : (c : ℕ) → IsCompleted fresh_problem c → (has (no_calls fresh_problem) c ≡ true) ⊎ In c (0 ∷ 1 ∷ [])
fresh_complete zero d = inr (inl refl)
fresh_complete (suc zero) d = inr (inr (inl refl))
fresh_complete (suc (suc c)) d = absurd d

-- The write and then the read, which it precedes, is a linearization.
pub fresh_read_last : IsLinearization fresh_problem (0 ∷ 1 ∷ [])
fresh_read_last = record {
  continuation = record {
    distinct = ((λ i. elim i [ inl e ↦ absurd (cc) | inr n ↦ absurd n ]), ((λ n. n), tt));
    outside = λ c i. none_in c;
    legal = (Register (pos 1), (Register (pos 1), refl, (Register (pos 1), refl, refl)));
    ordered = λ early b late e a h. (let both = fresh_before a b h in inr (subst (λ x. In x early) (sym both.0) (in_front early b late e both.1)));
  };
  complete = fresh_complete;
}

-- The history of the two calls that overlap, on one register that starts at 0 and is called x.
abbrev pub overlap_history : RecordedHistory
overlap_history = record { objects = (record { name = 120 ∷ []; kind = kinds.Register; start = pos 0 }) ∷ []; calls = overlap_calls; events = 4 }

overlap_declared : (i : ℕ) (c : Call Op Reply) → slice_get overlap_calls i ≡ Some c → c.object < 1
overlap_declared zero c e = let f = ap (λ (x : Call Op Reply). x.object) (same_some write_call c e) in omega (arith, f)
overlap_declared (suc zero) c e = let f = ap (λ (x : Call Op Reply). x.object) (same_some read_call c e) in omega (arith, f)
overlap_declared (suc (suc i)) c e = absurd (not_some c e)

-- The recorded history of the two calls is the history of their events.
pub overlap_is_history : IsHistoryOf overlap_events overlap_history
overlap_is_history = record { well_formed = overlap_well_formed; calls_are = refl; count = refl; declared = overlap_declared }

-- The part of that history on the register is the problem of the two calls.
pub overlap_part : part_of overlap_history 0 ≡ overlap_problem
overlap_part = refl

-- A placed call, by its index and with its reply.
abbrev pub placed : ℕ → Reply → Placed Reply
placed call reply = record { call = call; reply = reply }

abbrev value_of : Reply → ℤ → ℤ
value_of (Int a) d = a
value_of r d = d

same_values : (s t : ObjState) (a b : ℤ) → ◌≡◌ {A = Option (ObjState × Reply)} (Some (s, Int a)) (Some (t, Int b)) → a ≡ b
same_values s t a b e = ap (λ (x : ObjState × Reply). value_of x.1 a) (same_some (s, Int a) (t, Int b) e)

not_zero_one : pos 0 ≡ pos 1 → ⊥
not_zero_one e = absurd (cc)

overlap_precedes : (a b : ℕ) → Precedes (whole_of overlap_history) a b → ⊥
overlap_precedes zero zero h = absurd (omega (arith, h))
overlap_precedes zero (suc zero) h = absurd (omega (arith, h))
overlap_precedes zero (suc (suc b)) h = absurd h
overlap_precedes (suc zero) zero h = absurd (omega (arith, h))
overlap_precedes (suc zero) (suc zero) h = absurd (omega (arith, h))
overlap_precedes (suc zero) (suc (suc b)) h = absurd h
overlap_precedes (suc (suc a)) b h = absurd h

overlap_complete : (a : ℕ) → HasReturned (whole_of overlap_history) a → Has (whole_of overlap_history) a (placed 0 Okay ∷ placed 1 (Int (pos 1)) ∷ [])
overlap_complete zero d = inl refl
overlap_complete (suc zero) d = inr (inl refl)
overlap_complete (suc (suc a)) d = absurd d

-- The write and then the read, with their replies, is a linearization of the whole history.
pub overlap_whole : IsLinearizationOfWhole (whole_of overlap_history) (placed 0 Okay ∷ placed 1 (Int (pos 1)) ∷ [])
overlap_whole = record {
  distinct = ((λ i. elim i [ inl e ↦ absurd (cc) | inr n ↦ absurd n ]), ((λ n. n), tt));
  complete = overlap_complete;
  ordered = ((λ a i h. overlap_precedes a 0 h), ((λ a i h. overlap_precedes a 1 h), tt));
  legal = (
    write_call,
    Register (pos 1),
    record { call = refl; step = refl; recorded = refl },
    (read_call, Register (pos 1), record { call = refl; step = refl; recorded = refl }, tt),
  );
}

-- A list with another reply than the recorded one is no linearization of the whole history.
pub overlap_wrong_reply : IsLinearizationOfWhole (whole_of overlap_history) (placed 0 Okay ∷ placed 1 (Int (pos 0)) ∷ []) → ⊥
overlap_wrong_reply l =
    let st = l.legal.3.2 in
    let same : read_call ≡ l.legal.3.0 = same_some read_call l.legal.3.0 st.call in
    absurd (let f : false ≡ true = subst (λ (c : Call Op Reply). fits reply_eq.it (Int (pos 0)) c.returned ≡ true) (sym same) st.recorded in cc)

-- A list that leaves out a completed call is no linearization of the whole history.
pub overlap_read_left_out : IsLinearizationOfWhole (whole_of overlap_history) (placed 0 Okay ∷ []) → ⊥
overlap_read_left_out l = elim (l.complete 1 refl) [ inl e ↦ absurd (cc) | inr n ↦ absurd n ]

-- The read and then the write is no linearization of the whole history, for the read would reply 0.
pub overlap_read_first : IsLinearizationOfWhole (whole_of overlap_history) (placed 1 (Int (pos 1)) ∷ placed 0 Okay ∷ []) → ⊥
overlap_read_first l =
    let st = l.legal.2 in
    let same : read_call ≡ l.legal.0 = same_some read_call l.legal.0 st.call in
    let answer = subst (λ (c : Call Op Reply). after (start_at overlap_history c.object) c.process c.op ≡ Some (l.legal.1, Int (pos 1))) (sym same) st.step in
    not_zero_one (same_values (Register (pos 0)) l.legal.1 (pos 0) (pos 1) answer)

-- A list that has a call twice is no linearization of the whole history.
pub overlap_twice : IsLinearizationOfWhole (whole_of overlap_history) (placed 0 Okay ∷ placed 1 (Int (pos 1)) ∷ placed 1 (Int (pos 1)) ∷ []) → ⊥
overlap_twice l = l.distinct.1.0 (inl refl)

-- The history of a write and, after its return, of a read with the old value.
abbrev pub stale_history : RecordedHistory
stale_history = record overlap_history {
  calls = (record { process = 1; object = 0; op = Write (pos 1); called = 1; returned = Some (2, Okay) })
      ∷ (record { process = 2; object = 0; op = Read; called = 3; returned = Some (4, Int (pos 0)) })
      ∷ [];
}

-- A list that has the read before the write that precedes it is no linearization of the whole history.
pub stale_whole_read_first : IsLinearizationOfWhole (whole_of stale_history) (placed 1 (Int (pos 0)) ∷ placed 0 Okay ∷ []) → ⊥
stale_whole_read_first l = l.ordered.0 0 (inr (inl refl)) (omega arith)

-- With no call before it, the point of the write is the number of its own call event.
pub point_alone : point (whole_of overlap_history) [] 0 ≡ 1
point_alone = refl

-- With the read before it, the point of the write is the number of the read's call event.
pub point_after_later : point (whole_of overlap_history) (placed 1 (Int (pos 1)) ∷ []) 0 ≡ 2
point_after_later = refl

-- With the write before it, the point of the read is the number of its own call event.
pub point_after_earlier : point_after (whole_of overlap_history) (placed 0 Okay ∷ []) (placed 1 (Int (pos 1))) ≡ 2
point_after_earlier = refl

-- A list comes before the lists that it begins.
pub prefix_first : IsUpTo (0 ∷ []) (0 ∷ 1 ∷ [])
prefix_first = inr (refl, tt)

-- A list comes before one with a greater first call, though that is shorter.
pub first_decides : IsUpTo (0 ∷ 1 ∷ []) (1 ∷ [])
first_decides = inl (omega arith)

-- A list does not come before one with a lower first call, though it is shorter.
pub shorter_not_first : IsUpTo (1 ∷ []) (0 ∷ 1 ∷ []) → ⊥
shorter_not_first h = elim h [ inl l ↦ absurd (omega (arith, l)) | inr e ↦ absurd (let f = e.0 in cc) ]

-- A list does not come before its own beginning.
pub longer_not_first : IsUpTo (0 ∷ 1 ∷ []) (0 ∷ []) → ⊥
longer_not_first h = elim h [ inl l ↦ absurd (omega (arith, l)) | inr e ↦ absurd e.1 ]

-- Of these two lists the first is the least.
pub least_of_two : IsLeast (λ l. (l ≡ 0 ∷ 1 ∷ []) ⊎ (l ≡ 1 ∷ [])) (0 ∷ 1 ∷ [])
least_of_two = (inl refl, λ m h. elim h [ inl e ↦ rw e (inr (refl, inr (refl, tt))) | inr e ↦ rw e first_decides ])

-- Of these two lists the second is not the least.
pub not_least_of_two : IsLeast (λ l. (l ≡ 0 ∷ 1 ∷ []) ⊎ (l ≡ 1 ∷ [])) (1 ∷ []) → ⊥
not_least_of_two h = shorter_not_first (h.1 (0 ∷ 1 ∷ []) (inl refl))

-- The write and then the read is a linearization of the register's part.
pub overlap_order : IsLinearization (part_of overlap_history 0) (0 ∷ 1 ∷ [])
overlap_order =
    order_by_part state_eq.it (whole_of overlap_history) 0 (0 ∷ 1 ∷ []) (placed 0 Okay ∷ placed 1 (Int (pos 1)) ∷ [])
    (part_of_whole (whole_of overlap_history) 0 (placed 0 Okay ∷ placed 1 (Int (pos 1)) ∷ []) overlap_whole)
    (refl, (write_call, Register (pos 1), record { call = refl; step = refl; recorded = refl }, (refl, (read_call, Register (pos 1), record { call = refl; step = refl; recorded = refl }, tt))))

pub overlap_orders : (h : RecordedHistory) (orders : List (List ℕ)) → h ≡ overlap_history → orders ≡ (0 ∷ 1 ∷ []) ∷ [] → (object : ℕ) (order : List ℕ) → slice_get orders object ≡ Some order → IsLinearization (part_of h object) order
overlap_orders h orders e f object order there = rw e (one object (rw f at there))
  where
    one : (object : ℕ) → slice_get ((0 ∷ 1 ∷ []) ∷ []) object ≡ Some order → IsLinearization (part_of overlap_history object) order
    one zero there = subst (IsLinearization (part_of overlap_history 0)) (same_some (0 ∷ 1 ∷ []) order there) overlap_order
    one (suc object) there = absurd (not_some order there)
