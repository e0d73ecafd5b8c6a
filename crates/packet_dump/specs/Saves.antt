-- Capture file of the selected packets.
use Rattle.std.specs.Prelude.{◌≡◌, ℕ, ◌^◌, ◌<◌, if◌then◌else◌, Bool, true, false, List, [], ◌∷◌, ◌++◌, Option}
use Rattle.std.specs.Prelude.{Some, None, filter, map}
use Rattle.std.specs.Io.KnownBytes.{Appends}
use Rattle.capture_reader.specs.Captures.{PlainShown}
use Rattle.capture_reader.specs.Classic.{heading_bytes}
use Rattle.capture_writer.specs.Written.{AreWritten, IsWriteError, IsWritten, capture_bytes, packet_bytes}
use Rattle.capture_writer.specs.Written.{written_heading}
use Rattle.capture_writer.specs.declared.write_error.WriteError.TheVariants as write_error
use Rattle.capture_writer.specs.declared.write_error.WriteRefusal.{WriteRefusal}
use Rattle.packet_dump.specs.DecodedPackets.{DecodedPacket}
use Rattle.packet_dump.specs.Dumps.{BeginsRun, IsRun}
use Rattle.packet_dump.specs.PacketContents.{is_wanted}
use Rattle.packet_dump.specs.declared.dump_options.DumpOptions.{DumpOptions}
use Rattle.packet_dump.specs.declared.ending.Ending.{Ending}
use Rattle.packet_dump.specs.declared.saving.SaveFault.TheVariants.{Refused, Failed}
use Rattle.packet_dump.specs.declared.saving.SaveState.{SaveState}
use Rattle.packet_dump.specs.declared.saving.SaveState.TheVariants.{Unasked, Open, Stopped}
use Rattle.packet_dump.specs.declared.saving.Saving.{Saving}

-- ---- selected packets

-- True if a packet is selected.
abbrev pub is_selected : DumpOptions → DecodedPacket → Bool
is_selected options one = is_wanted options one.shown one.content

-- the selected packets, in order
abbrev pub selected : DumpOptions → List DecodedPacket → List PlainShown
selected options packets = map (λ one. one.shown) (filter (is_selected options) packets)

-- ---- their capture

-- the link type of the capture: that of the first packet, or Ethernet without packets
abbrev pub link_in : List PlainShown → ℕ
link_in [] = 1
link_in (first ∷ others) = first.link

-- the bytes of the capture
abbrev pub copy_bytes : List PlainShown → List ℕ
copy_bytes packets = capture_bytes (link_in packets) packets

-- Each packet can be written, so the law `read_back` of capture_writer applies: the bytes are read as these packets.
abbrev pub AreSaved : List PlainShown → Type 0
AreSaved packets = (link_in packets < 2 ^ 16) × AreWritten (link_in packets) packets

-- A selected packet cannot be written, and this is its number; the bytes are a capture of the selected packets before
-- it.
pub record IsUnsaved (options : DumpOptions) (packets : List DecodedPacket) (bytes : List ℕ) (number : ℕ)
    (refusal : WriteRefusal) : Type 0 where
  pub earlier : List DecodedPacket
  pub one : DecodedPacket
  pub later : List DecodedPacket
  pub parts : packets ≡ earlier ++ one ∷ later
  pub is : is_selected options one ≡ true
  pub number_is : number ≡ one.number
  pub refused : IsWriteError (link_in (selected options earlier ++ one.shown ∷ [])) one.shown
      (write_error.Refused refusal)
  pub fits : link_in (selected options earlier ++ one.shown ∷ []) < 2 ^ 16
  pub written : AreWritten (link_in (selected options earlier ++ one.shown ∷ [])) (selected options earlier)
  pub bytes_are : bytes ≡ capture_bytes (link_in (selected options earlier ++ one.shown ∷ []))
      (selected options earlier)

-- The bytes begin a capture of the selected packets among the first ones.
pub record BeginsCopy (options : DumpOptions) (packets : List DecodedPacket) (bytes : List ℕ) : Type 0 where
  pub earlier : List DecodedPacket
  pub later : List DecodedPacket
  pub link : ℕ
  pub rest : List ℕ
  pub parts : packets ≡ earlier ++ later
  pub written : AreWritten link (selected options earlier)
  pub complete : capture_bytes link (selected options earlier) ≡ bytes ++ rest

-- ---- states

-- True if a file is wanted.
abbrev pub asks : SaveState → Bool
asks Unasked = false
asks (Open link) = true
asks (Stopped fault) = true

-- the state before any packet, with or without a file
abbrev pub new_state : Bool → SaveState
new_state true = Open None
new_state false = Unasked

-- True if writing to the file failed.
abbrev pub is_failed : SaveState → Bool
is_failed Unasked = false
is_failed (Open link) = false
is_failed (Stopped (Refused number refusal)) = false
is_failed (Stopped Failed) = true

-- True if nothing is written: no file is wanted, or it failed.
abbrev pub is_idle : SaveState → Bool
is_idle Unasked = true
is_idle (Open link) = false
is_idle (Stopped (Refused number refusal)) = false
is_idle (Stopped Failed) = true

-- True if packets are saved, but there was none.
abbrev pub is_empty : SaveState → Bool
is_empty Unasked = false
is_empty (Open None) = true
is_empty (Open (Some link)) = false
is_empty (Stopped fault) = false

-- the link type of the first packet
abbrev pub first_link : List PlainShown → Option ℕ
first_link [] = None
first_link (first ∷ others) = Some first.link

-- the bytes of these packets: the file header comes before the first, or when the file is closed without packets
abbrev pub begun_bytes : Bool → List PlainShown → List ℕ
begun_bytes closed [] = if closed then copy_bytes [] else []
begun_bytes closed (first ∷ others) = copy_bytes (first ∷ others)

-- The bytes for these packets, given whether a file is wanted and whether it is closed: the capture of the selected
-- packets, or of those before the first that cannot be written; or a prefix of it, if the file failed.
abbrev pub Saves : DumpOptions → Bool → Bool → SaveState → List DecodedPacket → List ℕ → Type 0
Saves options false closed Unasked packets bytes = bytes ≡ []
Saves options true closed (Open link) packets bytes =
    AreSaved (selected options packets) × (link ≡ first_link (selected options packets))
    × (bytes ≡ begun_bytes closed (selected options packets))
Saves options true closed (Stopped (Refused number refusal)) packets bytes =
    IsUnsaved options packets bytes number refusal
Saves options true closed (Stopped Failed) packets bytes = BeginsCopy options packets bytes
Saves options wanted closed state packets bytes = ⊥

-- ---- complete runs

-- The file, if one is wanted, has the bytes that are saved of the input.
abbrev pub IsCopy : DumpOptions → Bool → Bool → Ending → SaveState → List ℕ → List ℕ → Type 0
IsCopy options wanted ended ending state read saved =
    (packets : List DecodedPacket) × IsRun options ended ending read packets
    × Saves options wanted true state packets saved

-- The file, if one is wanted, begins the bytes that are saved of the input.
abbrev pub BeginsSaved : DumpOptions → Bool → List ℕ → List ℕ → Type 0
BeginsSaved options false read saved = saved ≡ []
BeginsSaved options true read saved =
    (packets : List DecodedPacket) × BeginsRun options read packets × BeginsCopy options packets saved

-- ---- steps

-- the file header before a packet, if it is the first
abbrev pub file_header_bytes : Option ℕ → ℕ → List ℕ
file_header_bytes None link = heading_bytes (written_heading link)
file_header_bytes (Some first) link = []

-- the link type of the capture, which is that of the first packet
abbrev pub link_with : Option ℕ → ℕ → ℕ
link_with None link = link
link_with (Some first) link = first

-- The packet of this number was appended to a capture of this link type, or as its first packet, or cannot be written.
abbrev pub Pushes : Option ℕ → SaveState → ℕ → PlainShown → (old new : List ℕ) → Type 0
Pushes link (Open next) number shown old new =
    (shown.link < 2 ^ 16) × (next ≡ Some (link_with link shown.link)) × IsWritten (link_with link shown.link) shown
    × (new ≡ (old ++ file_header_bytes link shown.link) ++ packet_bytes shown)
Pushes link (Stopped (Refused place refusal)) number shown old new =
    (shown.link < 2 ^ 16) × (place ≡ number) × IsWriteError (link_with link shown.link) shown (write_error.Refused
    refusal)
    × (new ≡ old ++ file_header_bytes link shown.link)
Pushes link state number shown old new = ⊥

-- Bytes that are right for these packets, after those in the file, become right for all packets.
abbrev pub GoesOn : DumpOptions → Saving → Saving → (packets all : List DecodedPacket) → Type 0
GoesOn options old new packets all =
    (wanted : Bool) (saved : List ℕ) → Saves options wanted false old.state packets (saved ++ old.bytes.items)
    → Saves options wanted false new.state all (saved ++ new.bytes.items)

-- The pending bytes were written, as far as the file accepted them.
abbrev pub Flushes : Saving → Saving → (contents next_contents : Option (List ℕ)) → Type 0
Flushes old new contents next_contents =
    (options : DumpOptions) (wanted closed : Bool) (packets : List DecodedPacket) (saved : List ℕ)
    → Saves options wanted closed old.state packets (saved ++ old.bytes.items)
    → (more : List ℕ) × Appends contents next_contents more
    × Saves options wanted closed new.state packets (saved ++ more)

-- No more packets follow.
abbrev pub Finishes : Saving → Saving → Type 0
Finishes old new =
    (options : DumpOptions) (wanted : Bool) (packets : List DecodedPacket) (saved : List ℕ)
    → Saves options wanted false old.state packets (saved ++ old.bytes.items)
    → Saves options wanted true new.state packets (saved ++ new.bytes.items)

-- No more packets follow, and the pending bytes were written.
abbrev pub Closes : Saving → Saving → (contents next_contents : Option (List ℕ)) → Type 0
Closes old new contents next_contents =
    (options : DumpOptions) (wanted : Bool) (packets : List DecodedPacket) (saved : List ℕ)
    → Saves options wanted false old.state packets (saved ++ old.bytes.items)
    → (more : List ℕ) × Appends contents next_contents more
    × Saves options wanted true new.state packets (saved ++ more)
