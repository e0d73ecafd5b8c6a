use Rattle.std.proofs.Common.{subst, take, ℕ, List, arith}
use Rattle.std.proofs.lemmas.Grind.{common_steps}
use Rattle.std.proofs.lemmas.Result.{on_err_weaker, on_ok_weaker}
use Rattle.std.specs.Io.KnownBytes.{Appends}
use Rattle.line_io.specs.WatchedWords.{AppendsPrefix, inner_of}
use Rattle.line_io.proofs.ResultLemmas.{at_exit}
use Rattle.frame_bench.specs.LineCalls.{HoldsLines}
use Rattle.frame_bench.proofs.StreamLemmas.{Moves-kept, Moves-prefix, Moves-read}
use Rattle.frame_bench.proofs.engine.step.Goals as goal

pub returns-clause-write : goal.returns-clause-write
returns-clause-write g c = grind (arith, common_steps)

pub returns-in_err-count-clause-err : goal.returns-in_err-count-clause-err
returns-in_err-count-clause-err g c =
    let contents_first = g.W.Write.contents (inner_of c.args.writer.now) in
    let remaining_first = g.R.Read.remaining (inner_of c.args.reader.now) in
    let remaining_second = g.R.Read.remaining (inner_of c.read.new.self) in
    at_exit c.from_residual.result
    (λ (before : List (List ℕ)) (lines : HoldsLines before c.args.session.now.pool).
    Moves-kept c.answers.ensures before c.args.session.now.line.items remaining_first remaining_second contents_first c.in_err-count.ensures.bytes)

pub returns-in_err-take-clause-err : goal.returns-in_err-take-clause-err
returns-in_err-take-clause-err g c =
    let contents_first = g.W.Write.contents (inner_of c.args.writer.now) in
    let remaining_first = g.R.Read.remaining (inner_of c.args.reader.now) in
    let remaining_second = g.R.Read.remaining (inner_of c.read.new.self) in
    let piece = take c.in_ok-count.count c.read.new.piece in
    at_exit c.from_residual-in_err-take.result
    (λ (before : List (List ℕ)) (lines : HoldsLines before c.args.session.now.pool).
    Moves-read c.answers.ensures before c.args.session.now.line.items piece remaining_first remaining_second contents_first c.in_ok-count.ensures.bytes.0)

pub returns-clause-err : goal.returns-clause-err
returns-clause-err g c =
    let contents_first = g.W.Write.contents (inner_of c.args.writer.now) in
    let contents_second = g.W.Write.contents (inner_of c.write_all.new.self) in
    let remaining_first = g.R.Read.remaining (inner_of c.args.reader.now) in
    let remaining_second = g.R.Read.remaining (inner_of c.read.new.self) in
    let piece = take c.in_ok-count.count c.read.new.piece in
    let prefix = λ (f : AppendsPrefix contents_first contents_second c.as_slice-answers.result.now) (before : List (List ℕ))
    (lines : HoldsLines before c.args.session.now.pool).
    Moves-prefix c.answers.ensures before c.args.session.now.line.items piece c.take.new.self.output.items
    c.take.new.self.line.items remaining_first remaining_second contents_first contents_second c.in_ok-count.ensures.bytes.0 (c.in_ok-take.ensures before lines).0
    (subst (AppendsPrefix contents_first contents_second) c.as_slice-answers.ensures.value f) in
    on_err_weaker c.write_all.result prefix c.write_all.ensures.prefix

pub returns-clause-ok : goal.returns-clause-ok
returns-clause-ok g c =
    let contents_first = g.W.Write.contents (inner_of c.args.writer.now) in
    let contents_second = g.W.Write.contents (inner_of c.write_all.new.self) in
    let piece = take c.in_ok-count.count c.read.new.piece in
    on_ok_weaker c.write_all.result
    (λ more before lines. (
      piece,
      c.take.new.self.output.items,
      c.in_ok-count.ensures.bytes.0,
      subst (Appends contents_first contents_second) c.as_slice-answers.ensures.value more,
      c.in_ok-take.ensures before lines,
    )) c.write_all.ensures.all
