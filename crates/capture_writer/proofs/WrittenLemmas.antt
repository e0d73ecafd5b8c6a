-- Written packets are read back.
use Rattle.std.proofs.Common.{◌≡◌, ℕ, zero, suc, ◌+◌, ◌-◌, ◌*◌, ◌/◌, ◌%◌, ◌^◌, ◌<◌, ◌≤◌, ◌==◌, Bool, not, nat_lt}
use Rattle.std.proofs.Common.{nat_le, List, [], ◌∷◌, ◌++◌, Option, Some, None, length, refl, sym, ap, subst, ◌∙◌}
use Rattle.std.proofs.Common.{append_assoc, arith}
use Rattle.std.proofs.lemmas.Bool.Decides.{nat_tests}
use Rattle.std.proofs.lemmas.Grind.{common_steps}
use Rattle.std.proofs.lemmas.List.{append-nil}
use Rattle.std.specs.Prelude.{map, pos}
use Rattle.ep_base.specs.Bytes.{AreBytes}
use Rattle.ep_base.specs.Tables.{IsDecided, first_row}
use Rattle.capture_reader.specs.Captures.{AreItems, IsCapture, Item, PlainShown, RefusesCapture, Stage}
use Rattle.capture_reader.specs.Captures.{heading, in_records, items_bytes, may_end, packet, record_shown}
use Rattle.capture_reader.specs.Captures.{stage_after_items}
use Rattle.capture_reader.specs.Classic.{FitsHeading, FitsRecord, heading_bytes, most_kept}
use Rattle.capture_reader.specs.Numbers.{word16, word32}
use Rattle.capture_reader.specs.declared.byte_order.ByteOrder.TheVariants.{Little}
use Rattle.capture_reader.specs.declared.shown.Time.{Time}
use Rattle.packet_times.specs.Instants.{epoch, instant_of}
use Rattle.capture_writer.specs.declared.write_error.WriteRefusal.{WriteRefusal}
use Rattle.capture_writer.specs.declared.write_error.WriteRefusal.TheVariants as refusal
use Rattle.capture_writer.specs.Written.{AreWritten, IsWritten, Shows, all_shown, back_of, capture_bytes, instant_in}
use Rattle.capture_writer.specs.Written.{packet_bytes, packets_bytes, record_of, time_rows}
use Rattle.capture_writer.specs.Written.{write_rows, written_heading}

-- ---- packets that no row rejects

-- A packet that is written has the capture's link type, at most 256 KiB, and a timestamp that fits in 32 bits of
-- seconds.
pub record Passes (link of_link len instant : ℕ) : Type 0 where
  pub same : of_link ≡ link
  pub short : len ≤ most_kept
  pub from : epoch ≤ instant
  pub to : instant < epoch + 2 ^ 32 * 1000000000

-- the refusal table of a packet with this link type, length and instant
abbrev rows_at : (link of_link len instant : ℕ) → List (Bool × WriteRefusal)
rows_at link of_link len instant =
    (not (of_link == link), refusal.LinkType of_link link)
    ∷ (nat_lt most_kept len, refusal.TooLong len)
    ∷ (nat_lt instant epoch, refusal.BeforeEpoch)
    ∷ (nat_le (epoch + 2 ^ 32 * 1000000000) instant, refusal.TooLate)
    ∷ []

passes_at : (link of_link len instant : ℕ) → first_row (rows_at link of_link len instant) ≡ None
    → Passes link of_link len instant
passes_at link of_link len instant none =
    let facts : (of_link ≡ link) × (len ≤ most_kept) × (epoch ≤ instant) × (instant < epoch + 2 ^ 32 * 1000000000) =
    grind (arith, common_steps, nat_tests) in
    record { same = facts.0; short = facts.1; from = facts.2; to = facts.3 }

-- the refusal table of a packet with this link type, length and timestamp
abbrev rows_with : (link of_link len : ℕ) → Option Time → List (Bool × WriteRefusal)
rows_with link of_link len time =
    (not (of_link == link), refusal.LinkType of_link link)
    ∷ (nat_lt most_kept len, refusal.TooLong len)
    ∷ time_rows time

-- A packet without timestamp is rejected.
no_time : (link of_link len : ℕ) → first_row (rows_with link of_link len None) ≡ None → ⊥
no_time link of_link len none = grind (arith, common_steps)

passes_with : (link of_link len : ℕ) (time : Option Time) → first_row (rows_with link of_link len time) ≡ None
    → Passes link of_link len (instant_in time)
passes_with link of_link len None none = absurd (no_time link of_link len none)
passes_with link of_link len (Some time) none = passes_at link of_link len (instant_of time) none

pub passes : (link : ℕ) (shown : PlainShown) → first_row (write_rows link shown) ≡ None
    → Passes link shown.link (length shown.bytes) (instant_in shown.time)
passes link shown none = passes_with link shown.link (length shown.bytes) shown.time none

-- A packet with the capture's link type, a valid length and a valid timestamp is not rejected.
none_refuses : (link of_link len instant : ℕ) → Passes link of_link len instant
    → first_row (rows_at link of_link len instant) ≡ None
none_refuses link of_link len instant passed =
    let same = passed.same in
    let short = passed.short in
    let from = passed.from in
    let to = passed.to in
    grind (arith, common_steps)

pub accepted : (link : ℕ) (shown : PlainShown) (time : Time) → shown.time ≡ Some time
    → Passes link shown.link (length shown.bytes) (instant_of time) → first_row (write_rows link shown) ≡ None
accepted link shown time is passed =
    let Accepted : Option Time → Type 0 = λ t. first_row (rows_with link shown.link (length shown.bytes) t) ≡ None in
    subst Accepted (sym is) (none_refuses link shown.link (length shown.bytes) (instant_of time) passed)

-- ---- the capture

seconds_fit : (instant : ℕ) → instant < epoch + 2 ^ 32 * 1000000000 → instant / 1000000000 - 2 ^ 63 < 2 ^ 32
seconds_fit instant to = omega arith

fraction_fits : (instant : ℕ) → instant % 1000000000 < 2 ^ 32
fraction_fits instant = omega arith

heading_fits : (link : ℕ) → link < 2 ^ 16 → FitsHeading (written_heading link)
heading_fits link fits =
    record { zone = omega arith; accuracy = omega arith; snap_len = omega arith; network = omega arith }

record_fits : (link : ℕ) (shown : PlainShown) → IsWritten link shown → FitsRecord (record_of shown)
record_fits link shown is =
    let passed = passes link shown is.accepted in
    record {
      seconds = seconds_fit (instant_in shown.time) passed.to;
      fraction = fraction_fits (instant_in shown.time);
      original_len = is.original_len;
      kept = passed.short;
    }

-- the records of packets, as items
abbrev packet_items : List PlainShown → List Item
packet_items [] = []
packet_items (shown ∷ more) = packet (record_of shown) ∷ packet_items more

records_fit : (link : ℕ) (packets : List PlainShown) → AreWritten link packets
    → AreItems (in_records (written_heading link)) (packet_items packets)
records_fit link [] are = tt
records_fit link (shown ∷ more) are = (record_fits link shown are.0, records_fit link more are.1)

records_parts : (link : ℕ) (packets : List PlainShown)
    → packets_bytes packets ≡ items_bytes (in_records (written_heading link)) (packet_items packets)
records_parts link [] = refl
records_parts link (shown ∷ more) = ap (λ (s : List ℕ). packet_bytes shown ++ s) (records_parts link more)

records_stage : (link : ℕ) (packets : List PlainShown)
    → stage_after_items (in_records (written_heading link)) (packet_items packets) ≡ in_records (written_heading link)
records_stage link [] = refl
records_stage link (shown ∷ more) = records_stage link more

-- the items of a written capture: the file header, and a record for each packet
abbrev written_items : ℕ → List PlainShown → List Item
written_items link packets = heading (written_heading link) ∷ packet_items packets

written_capture : (link : ℕ) (packets : List PlainShown) → link < 2 ^ 16 → AreWritten link packets
    → IsCapture (capture_bytes link packets) (written_items link packets)
written_capture link packets fits are = record {
  fits = (heading_fits link fits, records_fit link packets are);
  parts = ap (λ (s : List ℕ). heading_bytes (written_heading link) ++ s) (records_parts link packets);
  ended = ap (λ (stage : Stage). may_end stage []) (records_stage link packets);
}

-- ---- packets of the capture

same_link : (link of_link : ℕ) → link < 2 ^ 16 → of_link ≡ link → link % 65536 ≡ of_link
same_link link of_link fits same = omega arith

same_ticks : (instant : ℕ) → epoch ≤ instant
    → (instant / 1000000000 - 2 ^ 63) * 1000000000 + instant % 1000000000 ≡ instant - epoch
same_ticks instant from = omega arith

-- A record shows its packet.
same_shown : (link : ℕ) (shown : PlainShown) → link < 2 ^ 16 → IsWritten link shown
    → record_shown (written_heading link) (record_of shown) ≡ back_of shown
same_shown link shown fits is =
    let passed = passes link shown is.accepted in
    let linked = same_link link shown.link fits passed.same in
    let ticks = same_ticks (instant_in shown.time) passed.from in
    λ i. record {
      link = linked i;
      interface = None;
      time = Some (record { ticks = ticks i; per_second = 1000000000; offset = pos 0 });
      original_len = shown.original_len;
      bytes = shown.bytes;
    }

records_shown : (link : ℕ) (packets : List PlainShown) → link < 2 ^ 16 → AreWritten link packets
    → all_shown (in_records (written_heading link)) (packet_items packets) ≡ map back_of packets
records_shown link [] fits are = refl
records_shown link (shown ∷ more) fits are =
    let first = same_shown link shown fits are.0 in
    let others = records_shown link more fits are.1 in
    λ i. first i ∷ others i

-- The timestamp of a packet that is read back is the same instant.
pub same_instant : (link : ℕ) (shown : PlainShown) → IsWritten link shown
    → instant_in (back_of shown).time ≡ instant_in shown.time
same_instant link shown is =
    let passed = passes link shown is.accepted in
    let from = passed.from in
    omega (arith, from)

-- ---- the written bytes are bytes

-- Each number is a byte; a record, so that the list is inferred from it.
record AllBytes (bytes : List ℕ) : Type 0 where
  fits : AreBytes bytes

none : AllBytes []
none = record { fits = λ i. omega arith }

more_bytes : (byte : ℕ) (bytes : List ℕ) → byte < 256 → AreBytes bytes → AreBytes (byte ∷ bytes)
more_bytes byte bytes small fits zero = small
more_bytes byte bytes small fits (suc i) = fits i

more : (byte : ℕ) (bytes : List ℕ) → byte < 256 → AllBytes bytes → AllBytes (byte ∷ bytes)
more byte bytes small all = record { fits = more_bytes byte bytes small all.fits }

both_bytes : (bytes after : List ℕ) → AreBytes bytes → AreBytes after → AreBytes (bytes ++ after)
both_bytes [] after fits other = other
both_bytes (byte ∷ bytes) after fits other =
    more_bytes byte (bytes ++ after) (fits 0) (both_bytes bytes after (λ i. fits (suc i)) other)

both : (bytes after : List ℕ) → AllBytes bytes → AllBytes after → AllBytes (bytes ++ after)
both bytes after all others = record { fits = both_bytes bytes after all.fits others.fits }

short : (n : ℕ) → AllBytes (word16 Little n)
unfolding word16
short n = more _ _ (omega arith) (more _ _ (omega arith) none)

long : (n : ℕ) → AllBytes (word32 Little n)
unfolding word32
long n = more _ _ (omega arith) (more _ _ (omega arith) (more _ _ (omega arith) (more _ _ (omega arith) none)))

heading_fits_bytes : (link : ℕ) → AllBytes (heading_bytes (written_heading link))
heading_fits_bytes link =
    let style = long 0xa1b23c4d in
    both _ _ (both _ _ (both _ _ (both _ _ (both _ _ (both _ _ style (short 2)) (short 4)) (long 0)) (long 0))
    (long most_kept)) (long link)

packet_fits_bytes : (shown : PlainShown) → AreBytes shown.bytes → AllBytes (packet_bytes shown)
packet_fits_bytes shown fits =
    let one = record_of shown in
    let all : AllBytes shown.bytes = record { fits = fits } in
    both _ _ (both _ _ (both _ _ (both _ _ (long one.seconds) (long one.fraction)) (long (length shown.bytes)))
    (long one.original_len)) all

packets_fit_bytes : (link : ℕ) (packets : List PlainShown) → AreWritten link packets → AllBytes (packets_bytes packets)
packets_fit_bytes link [] are = none
packets_fit_bytes link (shown ∷ others) are =
    both _ _ (packet_fits_bytes shown are.0.bytes) (packets_fit_bytes link others are.1)

-- ---- the law

-- the law of `capture_reader` about all captures
abbrev pub AllDecided : Type 0
AllDecided = (bytes : List ℕ) → AreBytes bytes → IsDecided (IsCapture bytes) (RefusesCapture bytes)

pub written_shows : AllDecided → (link : ℕ) (packets : List PlainShown) → link < 2 ^ 16 → AreWritten link packets
    → Shows (capture_bytes link packets) (map back_of packets)
written_shows all_decided link packets fits are =
    let items = written_items link packets in
    let is = written_capture link packets fits are in
    let all : AllBytes (capture_bytes link packets) =
    both _ _ (heading_fits_bytes link) (packets_fit_bytes link packets are) in
    let decided = all_decided (capture_bytes link packets) all.fits in
    record {
      items = items;
      is = is;
      only = λ other other_is. decided.one_value other items other_is is;
      accepted = λ found refused. decided.not_both items found is refused;
      shown = records_shown link packets fits are;
    }

-- One more packet appends its record.
packets_more : (packets : List PlainShown) (shown : PlainShown)
    → packets_bytes (packets ++ shown ∷ []) ≡ packets_bytes packets ++ packet_bytes shown
packets_more [] shown = append-nil (packet_bytes shown)
packets_more (first ∷ more) shown =
    ap (λ (s : List ℕ). packet_bytes first ++ s) (packets_more more shown)
    ∙ sym (append_assoc (packet_bytes first) (packets_bytes more) (packet_bytes shown))

pub capture_more : (link : ℕ) (packets : List PlainShown) (shown : PlainShown)
    → capture_bytes link (packets ++ shown ∷ []) ≡ capture_bytes link packets ++ packet_bytes shown
capture_more link packets shown =
    let prefix = heading_bytes (written_heading link) in
    ap (λ (s : List ℕ). prefix ++ s) (packets_more packets shown)
    ∙ sym (append_assoc prefix (packets_bytes packets) (packet_bytes shown))
