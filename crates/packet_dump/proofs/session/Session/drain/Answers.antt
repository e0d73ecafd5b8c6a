use Rattle.std.proofs.Common.{◌++◌, ℕ, List, ap, arith, refl, subst, sym, ◌∙◌}
use Rattle.std.proofs.lemmas.List.{append-nil}
use Rattle.capture_reader.specs.Readers.{reader_rest}
use Rattle.packet_dump.specs.Sessions.{HasProcessed, with_lines}
use Rattle.packet_dump.specs.declared.session.CaptureState.TheVariants as capture_state
use Rattle.packet_dump.proofs.SessionLemmas.{drains_end, parsed, processed_other, processed_same}
use Rattle.packet_dump.proofs.SessionLemmas.{with_options}
use Rattle.packet_dump.proofs.session.Session.drain.Goals as goal

pub items-init : goal.items-init
items-init c =
    let self = c.args.self.now in
    let cleared = record self { output = c.clear.new.self } in
    record {
      processed = λ options read written was.
          subst (λ (t : List ℕ). HasProcessed options cleared read (record written { lines = t }))
          (sym (ap (λ (t : List ℕ). written.lines ++ t) c.clear.ensures.items ∙ append-nil written.lines))
          (processed_same options self cleared read read written written.saved was was.has_read.reads was.saves);
      taken = refl;
      counts = c.requires.counts;
      failed = refl;
    }

pub process_packets-requires-clause-fits : goal.process_packets-requires-clause-fits
process_packets-requires-clause-fits c =
    let advanced = rw c.in-Ok-Packet.field-0-is at c.in-Ok-Packet.ensures in
    omega (arith, advanced.total, c.items.invariant.taken, c.requires.fits)

pub process_packets-requires-clause-counts : goal.process_packets-requires-clause-counts
process_packets-requires-clause-counts c =
    let advanced = rw c.in-Ok-Packet.field-0-is at c.in-Ok-Packet.ensures in
    omega (arith, advanced.total, advanced.less tt, c.items.invariant.counts)

pub items-preserved-in-Continue-1 : goal.items-preserved-in-Continue-1
items-preserved-in-Continue-1 c =
    let advanced = rw c.in-Ok-Packet.field-0-is at c.in-Ok-Packet.ensures in
    let done = c.in_ok-process_packets-in-Ok-Packet.ensures in
    record {
      processed = λ options read written was.
          with_options options c.items.self c.process_packets.new.self read _ _
          (λ has. done.processed c.items.self.options read written
          (parsed c.items.self c.advance.new.self read written advanced.reads has))
          (c.items.invariant.processed options read written was);
      taken = done.taken ∙ advanced.total ∙ c.items.invariant.taken;
      counts = done.counts;
      failed = done.failed ∙ c.items.invariant.failed;
    }

pub items-preserved : goal.items-preserved
items-preserved c =
    let advanced = rw c.in-Ok-Other.field-0-is at c.in-Ok-Other.ensures in
    record {
      processed = λ options read written was.
          with_options options c.items.self _ read _ _
          (processed_other c.items.self c.advance.new.self read (with_lines written c.items.self.output.items)
          advanced.reads) (c.items.invariant.processed options read written was);
      taken = advanced.total ∙ c.items.invariant.taken;
      counts = omega (arith, c.items.invariant.counts, advanced.grows);
      failed = c.items.invariant.failed;
    }

pub returns-in-Ok-MayEnd-clause-drains : goal.returns-in-Ok-MayEnd-clause-drains
returns-in-Ok-MayEnd-clause-drains c =
    let advanced = rw c.in-Ok-MayEnd.field-0-is at c.in-Ok-MayEnd.ensures in
    λ options read written processed.
    let was = c.items.invariant.processed options read written processed in
    let found = advanced.reads read was.items was.has_read.reads in
    drains_end options c.items.self c.advance.new.self capture_state.MayEnd read written c.if-self.false was found.0
    (λ few. (few, found.1))

pub returns-in-Ok-Cut-clause-drains : goal.returns-in-Ok-Cut-clause-drains
returns-in-Ok-Cut-clause-drains c =
    let advanced = rw c.in-Ok-Cut.field-0-is at c.in-Ok-Cut.ensures in
    λ options read written processed.
    let was = c.items.invariant.processed options read written processed in
    let found = advanced.reads read was.items was.has_read.reads in
    drains_end options c.items.self c.advance.new.self (capture_state.Cut c.in-Ok-Cut.error) read written
    c.if-self.false was found.0 (λ few. (few, found.1))

pub returns-in-Err-clause-drains : goal.returns-in-Err-clause-drains
returns-in-Err-clause-drains c =
    λ options read written processed.
    let was = c.items.invariant.processed options read written processed in
    let found = c.in-Err.ensures.reads read was.items was.has_read.reads in
    drains_end options c.items.self c.advance.new.self (capture_state.Refused c.in-Err.error) read written
    c.if-self.false was found.0 (λ few. (few, found.1))

pub returns-then-self-clause-drains : goal.returns-then-self-clause-drains
returns-then-self-clause-drains c =
    λ options read written processed.
    let was = c.items.invariant.processed options read written processed in
    let has_read = was.has_read in (
      was,
      (
        (reader_rest c.items.self.capture, has_read.reads.fits, has_read.reads.parts),
        ap (λ p. p.number) has_read.progress ∙ c.if-self.true ∙ ap (λ o. o.most) has_read.options_is,
      ),
    )
