use Rattle.std.proofs.Common.{sym, ◌∙◌, true≢false, arith}
use Rattle.lin_history.specs.Problems.Problem.{problem_of}
use Rattle.lin_fewer.proofs.FrontLemmas.{minimal_by}
use Rattle.lin_fewer.proofs.borne.stands_in.Goals as goal

pub returns : goal.returns
returns g c = λ yes. record {
  pending = λ done. true≢false (sym (c.is_completed.ensures.1 done) ∙ c.if-is_completed.false);
  minimal = minimal_by (problem_of g.O.SeqObject.after g.O.State.PartialEq.eq g.O.Reply.PartialEq.eq c.args.problem.now) c.args.config.now.lifted c.args.bound c.args.other c.requires.bound (c.is_later.ensures.no c.if-is_later.false) (let a = c.if-other-len.false in let b = c.len.ensures in omega (arith, a, b)) (sym c.has.ensures ∙ c.if-has.false);
  there = sym c.has-else-has.ensures ∙ c.if-not-has.false;
  stands = λ s out. c.repeats.ensures.stands yes c.args.config.now.lifted s out;
}
