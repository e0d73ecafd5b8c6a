use Rattle.std.proofs.Common.{◌≤◌, ◌-◌, ◌∙◌, refl, sym, ap, subst, length-drop, slice_range, arith}
use Rattle.capture_reader.specs.BlockContents.{FitsLen, content_interfaces, content_shown}
use Rattle.capture_reader.specs.Readers.{reader_rest}
use Rattle.capture_reader.proofs.StepLemmas.{moved_past, other_block, packet_block}
use Rattle.capture_reader.proofs.reader.CaptureReader.read_block.Goals as goal

pub returns-in-Section : goal.returns-in-Section
returns-in-Section c =
    let self = c.args.self.now in
    let one = c.args.block in
    other_block self _ c.requires.0 one c.requires.1 (moved_past self _ one refl refl refl refl
    (c.clear.ensures.items ∙ sym (ap (content_interfaces self.interfaces.items) c.in-Section.is)))
    (ap (content_shown (slice_range (reader_rest self) 8 (one.len - 4))) c.in-Section.is)

pub returns-in-Interface : goal.returns-in-Interface
returns-in-Interface c =
    let self = c.args.self.now in
    let one = c.args.block in
    other_block self _ c.requires.0 one c.requires.1 (moved_past self _ one refl refl refl refl
    (c.push_reserved.ensures.items ∙ sym (ap (content_interfaces self.interfaces.items) c.in-Interface.is)))
    (ap (content_shown (slice_range (reader_rest self) 8 (one.len - 4))) c.in-Interface.is)

pub returns-in-Packet : goal.returns-in-Packet
returns-in-Packet c =
    let self = c.args.self.now in
    let one = c.args.block in
    packet_block self _ c.requires.0 one c.in-Packet.packet c.requires.1
    (moved_past self _ one refl refl refl refl
    (sym (ap (content_interfaces self.interfaces.items) c.in-Packet.is))) c.in-Packet.is refl refl refl

pub returns-in-Other : goal.returns-in-Other
returns-in-Other c =
    let self = c.args.self.now in
    let one = c.args.block in
    other_block self _ c.requires.0 one c.requires.1 (moved_past self _ one refl refl refl refl
    (sym (ap (content_interfaces self.interfaces.items) c.in-Other.is)))
    (ap (content_shown (slice_range (reader_rest self) 8 (one.len - 4))) c.in-Other.is)

pub push_reserved-requires : goal.push_reserved-requires
push_reserved-requires c =
    let self = c.args.self.now in
    let read = c.requires.1 in
    let long : 20 ≤ c.args.block.len = subst (λ stated. FitsLen stated c.args.block.len) c.in-Interface.is read.fits in
    omega (arith, long, read.within, length-drop self.end self.buffer.items)
