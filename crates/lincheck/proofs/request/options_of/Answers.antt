use Rattle.lincheck.proofs.CommandLineLemmas.{in_range, other_answers, run_answers}
use Rattle.lincheck.proofs.request.options_of.Goals as goal

pub options_asked-requires : goal.options_asked-requires
options_asked-requires c = in_range c.in_ok-command_line.field-0 c.in-Ok.matches c.in-Ok.ensures.parsed c.in_ok-command_line.ensures

pub returns-in-Ok : goal.returns-in-Ok
returns-in-Ok c =
    run_answers _ c.in_ok-command_line.field-0 c.in-Ok.matches c.options_asked.result c.is_asked.result c.is_asked-in-Ok.result c.request_of.result c.in_ok-command_line.ensures c.in-Ok.ensures.matches
    c.in-Ok.ensures.kinds c.options_asked.ensures c.is_asked.ensures c.is_asked-in-Ok.ensures c.request_of.ensures

pub returns-in-Err : goal.returns-in-Err
returns-in-Err c =
    other_answers _ c.in_ok-command_line.field-0 c.in-Err.error c.answer_to.result c.in_ok-command_line.ensures c.in-Err.ensures.kinds
    c.answer_to.ensures
