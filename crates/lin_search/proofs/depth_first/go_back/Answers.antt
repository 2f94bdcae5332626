use Rattle.std.proofs.Common.{sym, ap}
use Rattle.lin_search.specs.AlikeLemmas.{alike_refuted, turned}
use Rattle.lin_search.specs.SameLemmas.{alike_itself}
use Rattle.lin_search.specs.Path.{frame_of}
use Rattle.lin_search.proofs.PathLemmas.{frames_split, frames_same, none_kept, holds_alike, on_unless_ended, calls_here, pop_last, pop_next, pop_room, pop_set, refuted_here, step_back, holds_pop, answer_refuted, holds_refuted}
use Rattle.lin_search.proofs.depth_first.go_back.Goals as goal

pub returns-in_default-clause-step : goal.returns-in_default-clause-step
returns-in_default-clause-step g c =
    λ root limit k.
    let none = rw c.in_default.is at c.pop.ensures.none in
    let answer = answer_refuted root limit _ _ _ _ _ (none_kept g.O.SeqObject.undone _ _ none.0) k in
    (answer.0, λ refutation. rw c.pop.ensures.config answer.1)

pub returns-in_default-clause-holds : goal.returns-in_default-clause-holds
returns-in_default-clause-holds g c =
    λ w off root limit k h refutation.
    let none = rw c.in_default.is at c.pop.ensures.none in
    holds_refuted _ root _ _ (none_kept g.O.SeqObject.undone _ _ none.0) (answer_refuted root limit _ _ _ _ _ (none_kept g.O.SeqObject.undone _ _ none.0) k).1 h

pub leave-requires-clause-lifted : goal.leave-requires-clause-lifted
leave-requires-clause-lifted g c = rw (c.pop.ensures.entries, c.pop.ensures.config) (calls_here _ _ _ _ _ _ _ _ c.requires.progress.2)

pub leave-requires-clause-last : goal.leave-requires-clause-last
leave-requires-clause-last g c =
    let split = frames_split g.O.SeqObject.undone _ c.pop.new.self.frames.items c.in-Some.frame c.args.path.now.config.state c.in-Some.ensures.some in
    rw c.pop.ensures.entries (pop_last _ _ _ _ _ (frame_of g.O.SeqObject.undone c.in-Some.frame c.args.path.now.config.state) _ _ _ split c.requires.progress.2)

pub leave-requires-clause-room : goal.leave-requires-clause-room
leave-requires-clause-room g c =
    let split = frames_split g.O.SeqObject.undone _ c.pop.new.self.frames.items c.in-Some.frame c.args.path.now.config.state c.in-Some.ensures.some in
    rw c.pop.ensures.entries (pop_room _ _ _ _ _ (frame_of g.O.SeqObject.undone c.in-Some.frame c.args.path.now.config.state) _ _ _ split c.requires.progress.2)

pub copy_config-requires : goal.copy_config-requires
copy_config-requires g c = rw (c.pop.ensures.entries, c.pop.ensures.config) c.requires.progress.2.at.reachable

pub note_at-noted-requires-clause-refuted : goal.note_at-noted-requires-clause-refuted
note_at-noted-requires-clause-refuted g c =
    let alike = alike_itself c.lawful.ensures c.args.path.now.entries.problem in
    let same = rw c.pop.ensures.config at c.in_ok-refuted.ensures.state in
    rw (c.problem-problem.ensures, c.leave.ensures.problem, c.pop.ensures.entries, c.in_ok-refuted.ensures.lifted, c.pop.ensures.config) (alike_refuted alike _ _ _ _ (turned alike _ _ same) (refuted_here _ _ _ _ _ _ _ c.requires.progress.2))

pub unless_ended-on-requires : goal.unless_ended-on-requires
unless_ended-on-requires g c =
    let split = frames_split g.O.SeqObject.undone _ c.pop.new.self.frames.items c.in-Some.frame c.args.path.now.config.state c.in-Some.ensures.some in
    let last = pop_last _ _ _ _ _ (frame_of g.O.SeqObject.undone c.in-Some.frame c.args.path.now.config.state) _ _ _ split c.requires.progress.2 in
    rw (c.problem-problem.ensures, c.leave.ensures.problem, c.pop.ensures.entries, c.call-call.ensures) last.2.within

pub returns-clause-step : goal.returns-clause-step
returns-clause-step g c =
    λ root limit k.
    let f = frame_of g.O.SeqObject.undone c.in-Some.frame c.args.path.now.config.state in
    let split = frames_split g.O.SeqObject.undone _ c.pop.new.self.frames.items c.in-Some.frame c.args.path.now.config.state c.in-Some.ensures.some in
    let state = rw c.pop.ensures.config at c.in_ok-position.ensures.state in
    let set = pop_set root limit _ _ _ f _ _ _ split k _ _ (rw c.pop.ensures.entries at c.leave.ensures.last) (rw c.pop.ensures.entries at c.in_ok-position.ensures.lifted) in
    rw (frames_same g.O.SeqObject.undone _ _ _ _ (ap (λ v. v.items) c.leave.ensures.frames) state)
    (on_unless_ended root limit _ _ _ _ _ c.args.path.now.config.state _ c.in_ok-position.position _
    (pop_next root limit _ _ _ f _ _ _ split k _ set (sym state))
    (rw c.pop.ensures.entries at c.in_ok-position.ensures.candidate)
    (rw (c.problem-problem.ensures, c.leave.ensures.problem, c.pop.ensures.entries, c.call-call.ensures) at c.unless_ended-on.ensures.ended)
    (step_back root limit _ _ _ f _ _ _ split k _ _ _ _ (rw c.pop.ensures.entries at c.leave.ensures.last) (rw c.pop.ensures.entries at c.in_ok-position.ensures.lifted) (sym state) c.in_ok-position.ensures.longer c.in_ok-position.ensures.not_longer (rw c.pop.ensures.entries at c.in_ok-position.ensures.candidate)))

pub returns-clause-holds : goal.returns-clause-holds
returns-clause-holds g c =
    λ w off root limit k h.
    let f = frame_of g.O.SeqObject.undone c.in-Some.frame c.args.path.now.config.state in
    let split = frames_split g.O.SeqObject.undone _ c.pop.new.self.frames.items c.in-Some.frame c.args.path.now.config.state c.in-Some.ensures.some in
    let state = rw c.pop.ensures.config at c.in_ok-position.ensures.state in
    let alike = alike_itself c.lawful.ensures c.args.path.now.entries.problem in
    let lifted = rw c.pop.ensures.config at c.in_ok-refuted.ensures.lifted in
    let same = rw c.pop.ensures.config at c.in_ok-refuted.ensures.state in
    let copied = holds_alike alike (g.M.Memo.holds c.args.memo.now) root.lifted _ c.args.path.now.config c.in_ok-refuted.refuted (g.met.M.Memo.at_equal c.args.memo.now) lifted same h in
    let noted = (rw (c.problem-problem.ensures, c.leave.ensures.problem, c.pop.ensures.entries) at (c.note_at-noted.ensures.holds ((c.add.ensures.whole w).1))) root.lifted _ copied in
    let here = holds_alike alike (g.M.Memo.holds c.note_at-noted.new.memo) root.lifted _ c.in_ok-refuted.refuted c.args.path.now.config (g.met.M.Memo.at_equal c.note_at-noted.new.memo) (sym lifted) (turned alike _ _ same) noted.0 in
    let kept = g.met.M.Memo.at_equal c.note_at-noted.new.memo _ _ _ same (rw lifted at noted.1) in
    let set = pop_set root limit _ _ _ f _ _ _ split k _ _ (rw c.pop.ensures.entries at c.leave.ensures.last) (rw c.pop.ensures.entries at c.in_ok-position.ensures.lifted) in
    rw (c.unless_ended-on.ensures.same off, frames_same g.O.SeqObject.undone _ _ _ _ (ap (λ v. v.items) c.leave.ensures.frames) state)
    (holds_pop (g.M.Memo.holds c.note_at-noted.new.memo) root limit _ _ _ f _ _ _ _ _ split set (sym state) k kept (rw c.pop.ensures.entries at c.in_ok-position.ensures.candidate) here)

pub note_at-noted-requires-clause-of : goal.note_at-noted-requires-clause-of
note_at-noted-requires-clause-of g c = λ h. rw (c.problem-problem.ensures, c.leave.ensures.problem, c.pop.ensures.entries) (c.requires.of h)

pub returns-in_default-clause-changes : goal.returns-in_default-clause-changes
returns-in_default-clause-changes g c = g.met.M.Memo.unchanged _

pub returns-in_err-refuted-clause-changes : goal.returns-in_err-refuted-clause-changes
returns-in_err-refuted-clause-changes g c = g.met.M.Memo.unchanged _

pub returns-in_err-position-clause-changes : goal.returns-in_err-position-clause-changes
returns-in_err-position-clause-changes g c = g.met.M.Memo.unchanged _

pub returns-then-wants_memory-clause-problem : goal.returns-then-wants_memory-clause-problem
returns-then-wants_memory-clause-problem g c = rw c.pop.ensures.entries at c.leave.ensures.problem

pub returns-then-wants_memory-clause-whole : goal.returns-then-wants_memory-clause-whole
returns-then-wants_memory-clause-whole g c = λ w. (c.add.ensures.whole w).0

pub returns-then-wants_memory-clause-left : goal.returns-then-wants_memory-clause-left
returns-then-wants_memory-clause-left g c = c.add.ensures.left

pub returns-then-wants_memory-clause-terms : goal.returns-then-wants_memory-clause-terms
returns-then-wants_memory-clause-terms g c = c.add.ensures.terms

pub returns-then-wants_memory-clause-changes : goal.returns-then-wants_memory-clause-changes
returns-then-wants_memory-clause-changes g c = c.note_at-noted.ensures.changes

pub returns-clause-problem : goal.returns-clause-problem
returns-clause-problem g c = rw c.pop.ensures.entries at c.leave.ensures.problem

pub returns-clause-whole : goal.returns-clause-whole
returns-clause-whole g c = λ w. (c.add.ensures.whole w).0

pub returns-clause-left : goal.returns-clause-left
returns-clause-left g c = c.add.ensures.left

pub returns-clause-terms : goal.returns-clause-terms
returns-clause-terms g c = c.add.ensures.terms

pub returns-clause-changes : goal.returns-clause-changes
returns-clause-changes g c = c.note_at-noted.ensures.changes
