use Rattle.std.proofs.Common.{[], refl}
use Rattle.std.proofs.KnownBytes.{Appends-nil}
use Rattle.line_io.specs.WatchedWords.{has_ended, inner_of}
use Rattle.packet_dump.specs.Summaries.{plain_of}
use Rattle.packet_dump.specs.SummaryTexts.{summary_text}
use Rattle.packet_dump.proofs.RunLemmas.{run_summed}
use Rattle.packet_dump.proofs.dump_reader.Goals as goal

pub returns-in_ok-summarized-clause-ok : goal.returns-in_ok-summarized-clause-ok
returns-in_ok-summarized-clause-ok g c =
    let session = c.args.session.now in
    let last = plain_of c.run.new.session.summary in
    run_summed session.summary.wanted session.options (has_ended c.run.new.reader) c.in_ok-ending.ending
    (plain_of session.summary) last (g.R.Read.remaining (inner_of c.args.reader.now))
    (g.R.Read.remaining (inner_of c.run.new.reader)) (g.W.Write.contents (inner_of c.args.writer.now))
    (g.W.Write.contents (inner_of c.run.new.writer)) (g.W.Write.contents (inner_of c.summarized.new.writer))
    (summary_text last) c.requires.new.summary (rw c.if-wanted.true refl) c.in_ok-ending.ensures.counts
    c.in_ok-summarized.ensures.all

pub returns-else-wanted-clause-ok : goal.returns-else-wanted-clause-ok
returns-else-wanted-clause-ok g c =
    let session = c.args.session.now in
    let holds = g.W.Write.contents (inner_of c.run.new.writer) in
    run_summed session.summary.wanted session.options (has_ended c.run.new.reader) c.in_ok-ending.ending
    (plain_of session.summary) (plain_of c.run.new.session.summary) (g.R.Read.remaining (inner_of c.args.reader.now))
    (g.R.Read.remaining (inner_of c.run.new.reader)) (g.W.Write.contents (inner_of c.args.writer.now)) holds holds []
    c.requires.new.summary (rw c.if-wanted.false refl) c.in_ok-ending.ensures.counts (Appends-nil holds)
