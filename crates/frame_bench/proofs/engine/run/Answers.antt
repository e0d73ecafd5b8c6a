use Rattle.std.proofs.Common.{rules, arith, ◌≡◌, ◌≢◌, ◌∙◌, [], Bool, true, false, refl}
use Rattle.std.proofs.lemmas.Grind.{common_steps}
use Rattle.std.proofs.lemmas.Result.{on_err_weaker, on_ok_weaker}
use Rattle.std.proofs.KnownBytes.{Appends-nil, Consumes-nil}
use Rattle.std.proofs.lemmas.List.Elements.{All-nil}
use Rattle.std.specs.Io.KnownBytes.{Appends}
use Rattle.line_io.specs.Lines.{line_feed}
use Rattle.line_io.specs.WatchedWords.{AppendsPrefix, has_failed, inner_of}
use Rattle.line_io.proofs.ResultLemmas.{at_exit}
use Rattle.frame_bench.proofs.StreamLemmas.{AdvancesTo-none, Moves-advanced, Moves-begun}
use Rattle.frame_bench.proofs.StreamLemmas.{Moves-ended, Moves-ended_prefix, Moves-part}
use Rattle.frame_bench.proofs.engine.run.Goals as goal

-- A test that does not hold is false.
false_from : (b : Bool) → (b ≡ true → ⊥) → b ≡ false
false_from true refuted = absurd (refuted refl)
false_from false refuted = refl

pub pieces-init : goal.pieces-init
pieces-init g c = (
  (
    [],
    [],
    Consumes-nil (g.R.Read.remaining (inner_of c.args.reader.now)),
    Appends-nil (g.W.Write.contents (inner_of c.args.writer.now)),
    rw c.new-session.ensures.line
        (AdvancesTo-none [] [] c.new-session.result.pool (All-nil (λ byte. byte ≢ line_feed))
        c.new-session.ensures.holds),
  ),
  rw c.new-session.ensures.line (All-nil (λ byte. byte ≢ line_feed)),
  c.requires.reader_sound,
  c.requires.writer_sound,
  search rules,
  search rules,
  (refl, refl),
)

pub pieces-preserved : goal.pieces-preserved
pieces-preserved g c =
    let remaining = g.R.Read.remaining in
    let contents = g.W.Write.contents in
    let kept = c.in_ok-step.ensures.writer_reads in (
      Moves-advanced c.pieces.session.line.items c.step.new.session.line.items c.pieces.session.pool
          c.step.new.session.pool
          (remaining (inner_of c.args.reader.now)) (remaining (inner_of c.pieces.reader))
          (remaining (inner_of c.step.new.reader)) (contents (inner_of c.args.writer.now))
          (contents (inner_of c.pieces.writer)) (contents (inner_of c.step.new.writer))
          c.pieces.invariant.0 c.in_ok-step.ensures.ok,
      (c.in_ok-step.ensures.ok c.pieces.invariant.0.4.0.ended c.pieces.invariant.0.4.1).4.0.within,
      false_from (has_failed c.step.new.reader) (λ t. cc (c.in_ok-step.ensures.read.1 t)),
      false_from (has_failed c.step.new.writer) (λ t. cc (c.in_ok-step.ensures.write.1 t)),
      search rules,
      c.in_ok-step.ensures.end,
      (kept.0 ∙ c.pieces.invariant.6.0, kept.1 ∙ c.pieces.invariant.6.1),
    )

pub returns-in_err-step-clause-err : goal.returns-in_err-step-clause-err
returns-in_err-step-clause-err g c =
    let remaining = g.R.Read.remaining in
    let contents = g.W.Write.contents in
    at_exit c.from_residual-in_err-step.result
    (Moves-begun c.pieces.session.line.items c.pieces.session.pool (remaining (inner_of c.args.reader.now))
    (remaining (inner_of c.pieces.reader)) (remaining (inner_of c.step.new.reader))
    (contents (inner_of c.args.writer.now)) (contents (inner_of c.pieces.writer))
    (contents (inner_of c.step.new.writer)) c.pieces.invariant.0 c.in_err-step.ensures.err)

pub returns-in_err-finish-clause-err : goal.returns-in_err-finish-clause-err
returns-in_err-finish-clause-err g c =
    let remaining = g.R.Read.remaining in
    let contents = g.W.Write.contents in
    at_exit c.from_residual-in_err-finish.result
    (Moves-part c.answers.ensures c.pieces.session.line.items (remaining (inner_of c.args.reader.now))
    (remaining (inner_of c.pieces.reader)) (contents (inner_of c.args.writer.now))
    (contents (inner_of c.pieces.writer)) c.pieces.session.pool c.pieces.invariant.0)

pub returns-clause-ok : goal.returns-clause-ok
returns-clause-ok g c =
    let remaining = g.R.Read.remaining in
    let contents = g.W.Write.contents in
    let contents_second = contents (inner_of c.pieces.writer) in
    let contents_third = contents (inner_of c.write_all.new.self) in
    let last = c.as_slice.result.now in
    let all = λ (more : Appends contents_second contents_third last).
    Moves-ended c.pieces.session.line.items last c.pieces.session.pool (remaining (inner_of c.args.reader.now))
    (remaining (inner_of c.pieces.reader)) (contents (inner_of c.args.writer.now)) contents_second contents_third
    c.pieces.invariant.0 (rw c.as_slice.ensures.value c.in_ok-finish.ensures) more in
    on_ok_weaker c.write_all.result all c.write_all.ensures.all

pub returns-clause-err : goal.returns-clause-err
returns-clause-err g c =
    let remaining = g.R.Read.remaining in
    let contents = g.W.Write.contents in
    let contents_second = contents (inner_of c.pieces.writer) in
    let contents_third = contents (inner_of c.write_all.new.self) in
    let last = c.as_slice.result.now in
    let prefix = λ (more : AppendsPrefix contents_second contents_third last).
    Moves-ended_prefix c.pieces.session.line.items last c.pieces.session.pool (remaining (inner_of c.args.reader.now))
    (remaining (inner_of c.pieces.reader)) (contents (inner_of c.args.writer.now)) contents_second contents_third
    c.pieces.invariant.0 (rw c.as_slice.ensures.value c.in_ok-finish.ensures) more in
    on_err_weaker c.write_all.result prefix c.write_all.ensures.prefix

pub returns-clause-ended : goal.returns-clause-ended
returns-clause-ended g c = grind (arith, common_steps)

pub returns-clause-all_read : goal.returns-clause-all_read
returns-clause-all_read g c = grind (arith, common_steps)
