use Rattle.std.proofs.Common.{◌≡◌, ◌≢◌, ◌≤◌, ◌<◌, ◌+◌, ◌-◌, ℕ, List}
use Rattle.capture_reader.specs.Readers.{reader_offset, reader_unread, shown_of}
use Rattle.packet_dump.specs.Saves.{is_failed}
use Rattle.packet_dump.specs.Sessions.{HasParsed, Written}
use Rattle.packet_dump.specs.declared.dump_options.DumpOptions.{DumpOptions}
use Rattle.packet_dump.proofs.SessionLemmas.{ParsedAhead}
use Rattle.packet_dump.proofs.session.Session.process_packets.Given as goal

abbrev pub invariant-packets : goal.invariant-packets
invariant-packets l = record {
  parsed : (options : DumpOptions) (read : List ℕ) (written : Written) → HasParsed options l.fn.self read written
      → ParsedAhead options l.self l.fn.self.capture l.ahead (shown_of l.shown) read written;
  within : l.ahead ≤ reader_unread l.fn.self.capture;
  counts : l.self.number < reader_offset l.fn.self.capture + l.ahead;
  fewer : l.self.number ≢ l.self.options.most;
  failed : is_failed l.self.saving.state ≡ is_failed l.fn.self.saving.state;
}

abbrev pub decreases-packets : goal.decreases-packets
decreases-packets l = reader_unread l.fn.self.capture - l.ahead
