use Rattle.std.proofs.Common.{rules, ◌≡◌, ℕ, inl, refl, ◌∙◌, ap, arith, min}
use Rattle.std.proofs.lemmas.Option.{slice_get_read}
use Rattle.lin_object.specs.declared.reply.Reply.{Reply}
use Rattle.lin_ahead.proofs.values.NumberLemmas.{widened_by, least_of_two}
use Rattle.lin_ahead.proofs.values.clusters.with_call.Goals as goal
use Rattle.lin_ahead.proofs.values.clusters.with_call.Goals.{in-Some-returned, in-None}

pub returns : goal.returns
returns c =
    let there = slice_get_read c.args.calls.now _ c.args.call c.in-Some.one.now refl c.in-Some.ensures.lookup.3.0 c.in-Some.ensures.lookup.1 in
    elim c.match-one.branch [
      | in-Some-returned w ↦ (
          let by = w.by-is ∙ w.min-by.ensures ∙ ap (λ (n : ℕ). min c.args.numbers.by n) w.from.ensures in
          widened_by c.args.calls.now c.args.call c.in-Some.one.now c.args.numbers (record { by = c.match-one.by; from = c.max.result })
          there
          (least_of_two c.args.numbers.by c.match-one.by (w.in-Some-returned.number, w.in-Some-returned.field-0-1) c.in-Some.one.now.returned w.in-Some-returned.is by)
          (omega (arith, by))
          (λ r e. (let same : (w.in-Some-returned.number, w.in-Some-returned.field-0-1) ≡ r = cc in let k : w.in-Some-returned.number ≡ r.0 = ap (λ (q : ℕ × Reply). q.0) same in omega (arith, by, k)))
          (search rules))
      | in-None w ↦
          widened_by c.args.calls.now c.args.call c.in-Some.one.now c.args.numbers (record { by = c.match-one.by; from = c.max.result })
          there
          (inl w.by-is)
          (let e = w.by-is in omega (arith, e))
          (λ r e. absurd (let f = w.in-None.is in cc))
          (search rules)
    ]
