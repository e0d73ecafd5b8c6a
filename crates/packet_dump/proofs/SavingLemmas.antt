-- The bytes that are saved of the selected packets.
use Rattle.std.proofs.Common.{◌≡◌, ℕ, ◌^◌, ◌<◌, Bool, true, false, if◌then◌else◌, List, [], ◌∷◌, ◌++◌, Option, Some}
use Rattle.std.proofs.Common.{None, refl, sym, ap, subst, ◌∙◌, append_assoc}
use Rattle.std.proofs.lemmas.List.{append-nil, map-append}
use Rattle.std.proofs.lemmas.List.Elements.{filter-append}
use Rattle.capture_reader.specs.Captures.{PlainShown}
use Rattle.capture_reader.specs.Classic.{heading_bytes}
use Rattle.capture_writer.specs.Written.{AreWritten, IsWriteError, IsWritten, capture_bytes, packet_bytes}
use Rattle.capture_writer.specs.Written.{written_heading}
use Rattle.capture_writer.specs.declared.write_error.WriteError.TheVariants as write_error
use Rattle.capture_writer.specs.declared.write_error.WriteRefusal.{WriteRefusal}
use Rattle.packet_dump.specs.DecodedPackets.{DecodedPacket}
use Rattle.packet_dump.specs.Dumps.{BeginsRun}
use Rattle.packet_dump.specs.Saves.{AreSaved, BeginsCopy, BeginsSaved, Pushes, Saves, begun_bytes, copy_bytes}
use Rattle.packet_dump.specs.Saves.{file_header_bytes, first_link, is_empty, is_idle, is_selected, link_in, link_with}
use Rattle.packet_dump.specs.Saves.{selected}
use Rattle.packet_dump.specs.declared.dump_options.DumpOptions.{DumpOptions}
use Rattle.packet_dump.specs.declared.saving.SaveFault.TheVariants.{Refused, Failed}
use Rattle.packet_dump.specs.declared.saving.SaveState.{SaveState}
use Rattle.packet_dump.specs.declared.saving.SaveState.TheVariants.{Unasked, Open, Stopped}

-- ---- one more packet

selected_more : (options : DumpOptions) (packets : List DecodedPacket) (one : DecodedPacket)
    → is_selected options one ≡ true
    → selected options (packets ++ one ∷ []) ≡ selected options packets ++ one.shown ∷ []
selected_more options packets one is = rw (filter-append, map-append, is)

unselected_more : (options : DumpOptions) (packets : List DecodedPacket) (one : DecodedPacket)
    → is_selected options one ≡ false → selected options (packets ++ one ∷ []) ≡ selected options packets
unselected_more options packets one is = rw (filter-append, map-append, is, append-nil)

written_more : (link : ℕ) (packets : List PlainShown) (shown : PlainShown) → AreWritten link packets
    → IsWritten link shown → AreWritten link (packets ++ shown ∷ [])
written_more link [] shown are is = (is, tt)
written_more link (first ∷ others) shown are is = (are.0, written_more link others shown are.1 is)

-- the law of capture_writer on one more packet
abbrev pub AllMore : Type 0
AllMore = (link : ℕ) (packets : List PlainShown) (packet : PlainShown)
    → capture_bytes link (packets ++ packet ∷ []) ≡ capture_bytes link packets ++ packet_bytes packet

-- The bytes before a packet of this link type, with the file header, are the capture of the packets before it.
bytes_before : (packets : List PlainShown) (link : ℕ) (saved old : List ℕ) → saved ++ old ≡ begun_bytes false packets
    → saved ++ (old ++ file_header_bytes (first_link packets) link)
    ≡ capture_bytes (link_with (first_link packets) link) packets
bytes_before [] link saved old are =
    let header = heading_bytes (written_heading link) in
    sym (append_assoc saved old header) ∙ ap (λ (b : List ℕ). b ++ header) are ∙ sym (append-nil header)
bytes_before (first ∷ others) link saved old are = ap (λ (b : List ℕ). saved ++ b) (append-nil old) ∙ are

-- The bytes with a packet that was appended are the capture with this packet.
bytes_more : AllMore → (packets : List PlainShown) (shown : PlainShown) (saved old new : List ℕ)
    → saved ++ old ≡ begun_bytes false packets
    → new ≡ (old ++ file_header_bytes (first_link packets) shown.link) ++ packet_bytes shown
    → saved ++ new ≡ capture_bytes (link_with (first_link packets) shown.link) (packets ++ shown ∷ [])
bytes_more more packets shown saved old new are pushed =
    ap (λ (b : List ℕ). saved ++ b) pushed
    ∙ sym (append_assoc saved (old ++ file_header_bytes (first_link packets) shown.link) (packet_bytes shown))
    ∙ ap (λ (b : List ℕ). b ++ packet_bytes shown) (bytes_before packets shown.link saved old are)
    ∙ sym (more (link_with (first_link packets) shown.link) packets shown)

appended : AllMore → (packets : List PlainShown) (next : Option ℕ) (number : ℕ) (shown : PlainShown)
    (saved old new : List ℕ) → AreSaved packets → saved ++ old ≡ begun_bytes false packets
    → Pushes (first_link packets) (Open next) number shown old new
    → AreSaved (packets ++ shown ∷ []) × (next ≡ first_link (packets ++ shown ∷ []))
    × (saved ++ new ≡ begun_bytes false (packets ++ shown ∷ []))
appended more [] next number shown saved old new are bytes (fits, same, is, pushed) =
    ((fits, (is, tt)), same, bytes_more more [] shown saved old new bytes pushed)
appended more (first ∷ others) next number shown saved old new are bytes (fits, same, is, pushed) = (
  (are.0, written_more first.link (first ∷ others) shown are.1 is),
  same,
  bytes_more more (first ∷ others) shown saved old new bytes pushed,
)

refused : (packets : List PlainShown) (place number : ℕ) (refusal : WriteRefusal) (shown : PlainShown)
    (saved old new : List ℕ) → AreSaved packets → saved ++ old ≡ begun_bytes false packets
    → Pushes (first_link packets) (Stopped (Refused place refusal)) number shown old new
    → IsWriteError (link_in (packets ++ shown ∷ [])) shown (write_error.Refused refusal)
    × (link_in (packets ++ shown ∷ []) < 2 ^ 16) × AreWritten (link_in (packets ++ shown ∷ [])) packets
    × (saved ++ new ≡ capture_bytes (link_in (packets ++ shown ∷ [])) packets)
refused [] place number refusal shown saved old new are bytes (fits, same, is, pushed) =
    (is, fits, tt, ap (λ (b : List ℕ). saved ++ b) pushed ∙ bytes_before [] shown.link saved old bytes)
refused (first ∷ others) place number refusal shown saved old new are bytes (fits, same, is, pushed) = (
  is,
  are.0,
  are.1,
  ap (λ (b : List ℕ). saved ++ b) pushed ∙ bytes_before (first ∷ others) shown.link saved old bytes,
)

-- A selected packet is appended, or cannot be written.
pub saves_pushed : AllMore → (options : DumpOptions) (wanted : Bool) (link : Option ℕ) (state : SaveState)
    (packets : List DecodedPacket) (one : DecodedPacket) (saved old new : List ℕ) → is_selected options one ≡ true
    → Pushes link state one.number one.shown old new → Saves options wanted false (Open link) packets (saved ++ old)
    → Saves options wanted false state (packets ++ one ∷ []) (saved ++ new)
saves_pushed more options true link (Open next) packets one saved old new is pushes (are, first, bytes) =
    rw (selected_more options packets one is)
    (appended more (selected options packets) next one.number one.shown saved old new are bytes
    (subst (λ (l : Option ℕ). Pushes l (Open next) one.number one.shown old new) first pushes))
saves_pushed more options true link (Stopped (Refused place refusal)) packets one saved old new is pushes
    (are, first, bytes) =
    let stops = refused (selected options packets) place one.number refusal one.shown saved old new are bytes
    (subst (λ (l : Option ℕ). Pushes l (Stopped (Refused place refusal)) one.number one.shown old new) first pushes) in
    record {
      earlier = packets;
      one = one;
      later = [];
      parts = refl;
      is = is;
      number_is = pushes.1;
      refused = stops.0;
      fits = stops.1;
      written = stops.2;
      bytes_are = stops.3;
    }
saves_pushed more options true link state packets one saved old new is pushes saves = absurd pushes
saves_pushed more options false link state packets one saved old new is pushes saves = absurd saves

begins_copy : {options : DumpOptions} {packets : List DecodedPacket} {bytes : List ℕ}
    (earlier later : List DecodedPacket) (link : ℕ) (rest : List ℕ) → packets ≡ earlier ++ later
    → AreWritten link (selected options earlier) → capture_bytes link (selected options earlier) ≡ bytes ++ rest
    → BeginsCopy options packets bytes
begins_copy earlier later link rest parts are same =
    record { earlier = earlier; later = later; link = link; rest = rest; parts = parts; written = are; complete = same }

-- A packet that is not selected changes nothing, nor does any packet after packets are no longer saved.
pub saves_stays : (options : DumpOptions) (wanted : Bool) (state : SaveState) (packets : List DecodedPacket)
    (one : DecodedPacket) (bytes : List ℕ)
    → ((link : Option ℕ) → state ≡ Open link → is_selected options one ≡ false)
    → Saves options wanted false state packets bytes → Saves options wanted false state (packets ++ one ∷ []) bytes
saves_stays options false Unasked packets one bytes none saves = saves
saves_stays options true (Open link) packets one bytes none saves =
    rw (unselected_more options packets one (none link refl)) saves
saves_stays options true (Stopped (Refused number refusal)) packets one bytes none saves = record {
  earlier = saves.earlier;
  one = saves.one;
  later = saves.later ++ one ∷ [];
  parts = ap (λ (p : List DecodedPacket). p ++ one ∷ []) saves.parts
      ∙ append_assoc saves.earlier (saves.one ∷ saves.later) (one ∷ []);
  is = saves.is;
  number_is = saves.number_is;
  refused = saves.refused;
  fits = saves.fits;
  written = saves.written;
  bytes_are = saves.bytes_are;
}
saves_stays options true (Stopped Failed) packets one bytes none saves =
    begins_copy saves.earlier (saves.later ++ one ∷ []) saves.link saves.rest
    (ap (λ (p : List DecodedPacket). p ++ one ∷ []) saves.parts
    ∙ append_assoc saves.earlier saves.later (one ∷ [])) saves.written saves.complete
saves_stays options wanted state packets one bytes none saves = absurd saves

-- ---- what the file accepted

-- the bytes of the capture that are not written while more packets may follow
rest_of : (closed : Bool) (packets : List PlainShown)
    → (rest : List ℕ) × (copy_bytes packets ≡ begun_bytes closed packets ++ rest)
rest_of true [] = ([], sym (append-nil (copy_bytes [])))
rest_of false [] = (copy_bytes [], refl)
rest_of closed (first ∷ others) = ([], sym (append-nil (copy_bytes (first ∷ others))))

-- A prefix of the bytes in any state begins a capture.
begins : (options : DumpOptions) (closed : Bool) (state : SaveState) (packets : List DecodedPacket)
    (bytes rest : List ℕ) → Saves options true closed state packets (bytes ++ rest) → BeginsCopy options packets bytes
begins options closed (Open link) packets bytes rest (are, first, parts) =
    let missing = rest_of closed (selected options packets) in
    begins_copy packets [] (link_in (selected options packets)) (rest ++ missing.0) (sym (append-nil packets)) are.1
    (missing.1 ∙ ap (λ (b : List ℕ). b ++ missing.0) (sym parts) ∙ append_assoc bytes rest missing.0)
begins options closed (Stopped (Refused number refusal)) packets bytes rest saves =
    begins_copy saves.earlier (saves.one ∷ saves.later)
    (link_in (selected options saves.earlier ++ saves.one.shown ∷ [])) rest saves.parts saves.written
    (sym saves.bytes_are)
begins options closed (Stopped Failed) packets bytes rest saves =
    begins_copy saves.earlier saves.later saves.link (rest ++ saves.rest) saves.parts saves.written
    (saves.complete ∙ append_assoc bytes rest saves.rest)
begins options closed Unasked packets bytes rest saves = absurd saves

none_before : (bytes rest : List ℕ) → bytes ++ rest ≡ [] → bytes ≡ []
none_before [] rest none = refl
none_before (byte ∷ bytes) rest none = cc

-- If the file accepted a prefix of the bytes and then failed, that prefix begins the capture.
pub saves_failed : (options : DumpOptions) (wanted closed : Bool) (state : SaveState) (packets : List DecodedPacket)
    (saved bytes accepted rest : List ℕ) → is_idle state ≡ false → bytes ≡ accepted ++ rest
    → Saves options wanted closed state packets (saved ++ bytes)
    → Saves options wanted closed (Stopped Failed) packets (saved ++ accepted)
saves_failed options true closed state packets saved bytes accepted rest busy parts saves =
    begins options closed state packets (saved ++ accepted) rest
    (subst (λ (b : List ℕ). Saves options true closed state packets b)
    (ap (λ (b : List ℕ). saved ++ b) parts ∙ sym (append_assoc saved accepted rest)) saves)
saves_failed options false closed Unasked packets saved bytes accepted rest busy parts saves = cc
saves_failed options false closed state packets saved bytes accepted rest busy parts saves = absurd saves

-- In an idle state nothing is written.
pub saves_idle : (options : DumpOptions) (wanted closed : Bool) (state : SaveState) (packets : List DecodedPacket)
    (saved bytes : List ℕ) → is_idle state ≡ true → Saves options wanted closed state packets (saved ++ bytes)
    → Saves options wanted closed state packets (saved ++ [])
saves_idle options false closed Unasked packets saved bytes idle saves =
    append-nil saved ∙ none_before saved bytes saves
saves_idle options true closed (Stopped Failed) packets saved bytes idle saves =
    rw append-nil (begins options closed (Stopped Failed) packets saved bytes saves)
saves_idle options true closed (Stopped (Refused number refusal)) packets saved bytes idle saves = cc
saves_idle options true closed (Open link) packets saved bytes idle saves = cc
saves_idle options wanted closed state packets saved bytes idle saves = absurd saves

-- ---- no more packets

ended : (packets : List PlainShown) (link : Option ℕ) (saved bytes : List ℕ) → link ≡ first_link packets
    → saved ++ bytes ≡ begun_bytes false packets
    → saved ++ (if is_empty (Open link) then bytes ++ heading_bytes (written_heading 1) else bytes)
    ≡ begun_bytes true packets
ended [] None saved bytes first are = bytes_before [] 1 saved bytes are
ended [] (Some link) saved bytes first are = cc
ended (one ∷ others) None saved bytes first are = cc
ended (one ∷ others) (Some link) saved bytes first are = are

-- The file header is appended if there is no packet.
pub saves_finished : (options : DumpOptions) (wanted : Bool) (state : SaveState) (packets : List DecodedPacket)
    (saved bytes : List ℕ) → Saves options wanted false state packets (saved ++ bytes)
    → Saves options wanted true state packets
    (saved ++ (if is_empty state then bytes ++ heading_bytes (written_heading 1) else bytes))
saves_finished options false Unasked packets saved bytes saves = saves
saves_finished options true (Open link) packets saved bytes (are, first, parts) =
    (are, first, ended (selected options packets) link saved bytes first parts)
saves_finished options true (Stopped (Refused number refusal)) packets saved bytes saves = saves
saves_finished options true (Stopped Failed) packets saved bytes saves = saves
saves_finished options wanted state packets saved bytes saves = absurd saves

-- The bytes that the file accepted so far begin those that are saved of the input.
pub begins_saved : (options : DumpOptions) (wanted : Bool) (state : SaveState) (read : List ℕ)
    (packets : List DecodedPacket) (saved pending : List ℕ) → BeginsRun options read packets
    → Saves options wanted false state packets (saved ++ pending) → BeginsSaved options wanted read saved
begins_saved options true state read packets saved pending run saves =
    (packets, run, begins options false state packets saved pending saves)
begins_saved options false Unasked read packets saved pending run saves = none_before saved pending saves
begins_saved options false state read packets saved pending run saves = absurd saves
