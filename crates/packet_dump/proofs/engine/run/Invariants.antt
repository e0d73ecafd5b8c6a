use Rattle.std.proofs.Common.{◌≡◌, ◌≤◌, ◌*◌, ◌+◌, ◌^◌, false, true, vec_len}
use Rattle.std.specs.Io.KnownBytes.{IsAtEnd}
use Rattle.line_io.specs.WatchedWords.{has_failed, inner_of, is_at_end, reads_left}
use Rattle.packet_dump.specs.Saves.{is_failed}
use Rattle.packet_dump.specs.Sessions.{Counts, taken_by}
use Rattle.packet_dump.proofs.RunLemmas.{HasRun}
use Rattle.packet_dump.proofs.engine.run.Given as goal

abbrev pub invariant-chunks : goal.invariant-chunks
invariant-chunks g l = record {
  ran : HasRun l.initial.session
      (record {
        input = g.R.Read.remaining (inner_of l.initial.reader);
        output = g.W.Write.contents (inner_of l.initial.writer);
        file = g.F.Write.contents (inner_of l.initial.file);
      })
      (record {
        input = g.R.Read.remaining (inner_of l.reader);
        output = g.W.Write.contents (inner_of l.writer);
        file = g.F.Write.contents (inner_of l.file);
      })
      l.session;
  reader_sound : has_failed l.reader ≡ false;
  writer_sound : has_failed l.writer ≡ false;
  buffer : vec_len l.buffer ≡ 69632;
  counts : Counts l.session;
  taken : taken_by l.session + 65536 * reads_left l.reader ≤ 2 ^ 63;
  end : is_at_end l.reader ≡ true → IsAtEnd (g.R.Read.remaining (inner_of l.reader));
  file_sound : has_failed l.file ≡ is_failed l.session.saving.state;
}

abbrev pub decreases-chunks : goal.decreases-chunks
decreases-chunks g l = reads_left l.reader
