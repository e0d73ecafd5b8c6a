-- The line of a packet.
use Rattle.std.specs.Prelude.{ℕ, nat_lt, if◌then◌else◌, Bool, List, [], ◌∷◌, ◌++◌, Option, Some, None, codes, length}
use Rattle.std.specs.Fmt.{decimal}
use Rattle.capture_reader.specs.Captures.{PlainShown}
use Rattle.capture_reader.specs.declared.shown.Time.{Time}
use Rattle.line_io.specs.Lines.{line_feed, space}
use Rattle.packet_dump.specs.DecodedPackets.{DecodedPacket}
use Rattle.packet_dump.specs.Details.{interface_text}
use Rattle.packet_dump.specs.PacketContents.{bytes_text, content_text, shows_content, shown_bytes}
use Rattle.packet_text.specs.Links.{skipped_header_text}
use Rattle.packet_times.specs.Instants.{instant_of, is_fine}
use Rattle.packet_times.specs.TimeTexts.{epoch_text, since_text, utc_text}
use Rattle.packet_dump.specs.declared.dump_options.DumpOptions.{DumpOptions}
use Rattle.packet_dump.specs.declared.dump_options.TimeForm.{TimeForm}
use Rattle.packet_dump.specs.declared.dump_options.TimeForm.TheVariants.{Relative, Epoch, Utc}

-- the time since the first packet, or `-` if it is unknown
abbrev pub relative_text : Option ℕ → Option Time → List ℕ
relative_text (Some first) (Some time) = since_text (is_fine time) first (instant_of time)
relative_text (Some first) None = codes "-"
relative_text None time = codes "-"

-- the time in the given format, or `-` if it is unknown: since the first packet, since 1970, or date and time of day in
-- UTC
abbrev pub time_text : TimeForm → Option ℕ → Option Time → List ℕ
time_text Relative first time = relative_text first time
time_text Epoch first (Some time) = epoch_text time
time_text Epoch first None = codes "-"
time_text Utc first (Some time) = utc_text time
time_text Utc first None = codes "-"

-- the captured and the original length of a packet, if it is truncated
abbrev pub cut_text : ℕ → ℕ → List ℕ
cut_text kept original =
    if nat_lt kept original then codes " cut " ++ decimal kept ++ codes " of " ++ decimal original else []

-- the number and the time of a packet
abbrev pub moment_text : TimeForm → ℕ → Option ℕ → PlainShown → List ℕ
moment_text form number first shown = decimal number ++ space ∷ time_text form first shown.time

-- the start of the line of a packet: its number, the time, and the fields of a link header that the program parses
-- itself
abbrev pub line_start : TimeForm → DecodedPacket → List ℕ
line_start form one =
    moment_text form one.number one.first one.shown ++ skipped_header_text one.shown.link one.shown.bytes

-- the end of a line: the interface number if details are wanted, the captured length if the packet is truncated, rows
-- of bytes and a line feed
abbrev pub end_text : Bool → PlainShown → List ℕ → List ℕ
end_text verbose shown rows =
    interface_text verbose shown.interface ++ cut_text (length shown.bytes) shown.original_len ++ rows
    ++ line_feed ∷ []

-- the line of a packet: number, time, layers or error, details, interface, captured length, and bytes if they are
-- wanted
abbrev pub line_text : DumpOptions → DecodedPacket → List ℕ
line_text options one =
    line_start options.time one ++ content_text one.shown.bytes one.content ++ one.details
    ++ end_text options.verbose one.shown
    (bytes_text options.hex (shown_bytes options.whole one.content one.shown.bytes))

-- the line of a packet if it is shown, else nothing
abbrev pub line_of : DumpOptions → DecodedPacket → List ℕ
line_of options one = if shows_content options one.shown one.content then line_text options one else []
