use Rattle.std.proofs.Common.{◌≡◌, ℕ, List}
use Rattle.capture_reader.specs.Readers.{reader_unread}
use Rattle.packet_dump.specs.Saves.{is_failed}
use Rattle.packet_dump.specs.Sessions.{Counts, HasProcessed, Written, taken_by, with_lines}
use Rattle.packet_dump.specs.declared.dump_options.DumpOptions.{DumpOptions}
use Rattle.packet_dump.proofs.session.Session.drain.Given as goal

abbrev pub invariant-items : goal.invariant-items
invariant-items l = record {
  processed : (options : DumpOptions) (read : List ℕ) (written : Written) → HasProcessed options l.fn.self read written
      → HasProcessed options l.self read (with_lines written l.self.output.items);
  taken : taken_by l.self ≡ taken_by l.fn.self;
  counts : Counts l.self;
  failed : is_failed l.self.saving.state ≡ is_failed l.fn.self.saving.state;
}

abbrev pub decreases-items : goal.decreases-items
decreases-items l = reader_unread l.self.capture
