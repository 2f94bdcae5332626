use Rattle.std.proofs.Common.{◌∙◌, sym, ap, false, get_or}
use Rattle.lin_search.specs.Window.{word_at}
use Rattle.lin_search.proofs.WindowLemmas.{has_tested, flag_is}
use Rattle.lin_search.proofs.call_set.CallSet.has.Goals as goal

pub returns : goal.returns
returns c =
    let set = c.self.inside in
    rw (c.word.ensures, c.bit.ensures, c.as_slice.ensures)
    (has_tested (word_at set.full set.words.items) c.args.call
    ∙ sym (flag_is set.calls set.full set.words.items c.self.invariant.window c.args.call)
    ∙ ap (λ flags. get_or flags c.args.call false) c.self.view_is)
