-- An error for too few bytes states how many bytes there are, and that more are required.
use Rattle.std.proofs.Common.{◌≡◌, ℕ, ◌+◌, ◌-◌, ◌<◌, ◌==◌, min, Bool, true, false, List, [], ◌∷◌, Some, length}
use Rattle.std.proofs.Common.{slice_range}
use Rattle.std.proofs.Common.{refl, subst}
use Rattle.std.proofs.lemmas.Bool.{ltb-true}
use Rattle.std.proofs.lemmas.Option.{none-some}
use Rattle.ep_base.specs.Tables.{first_row}
use Rattle.capture_reader.specs.Numbers.{word32_at}
use Rattle.capture_reader.specs.Blocks.{Section, block_rows, body_rows, kind_in, no_section, order_in}
use Rattle.capture_reader.specs.Captures.{Stage, at_start, in_records, in_section, inside, begins_long, begins_section}
use Rattle.capture_reader.specs.Captures.{inside_rows}
use Rattle.capture_reader.specs.Captures.{item_rows, most_stretch, section_rows}
use Rattle.capture_reader.specs.Readers.{WantsBytes}
use Rattle.capture_reader.specs.declared.block.BlockKind.{BlockKind}
use Rattle.capture_reader.specs.declared.block.BlockKind.TheVariants.{SectionHeader, InterfaceDescription, SimplePacket}
use Rattle.capture_reader.specs.declared.block.BlockKind.TheVariants.{EnhancedPacket, ObsoletePacket, Other}
use Rattle.capture_reader.specs.declared.byte_order.ByteOrder.{ByteOrder}
use Rattle.capture_reader.specs.declared.interface.Interface.{Interface}
use Rattle.capture_reader.specs.declared.refusal.Refusal.{Refusal}
use Rattle.capture_reader.specs.declared.refusal.Refusal.TheVariants as refusal
use Rattle.capture_reader.proofs.CaptureLemmas.{same_some, start_rows}

-- Holds if a row for too few bytes states that `left` bytes are present, and applies only if more are required.
abbrev TellsWant : ℕ → Bool → Refusal → Type 0
TellsWant left short (refusal.Cut required present) = (present ≡ left) × (short ≡ true → left < required)
TellsWant left holds other = Unit {0}

abbrev TellWants : ℕ → List (Bool × Refusal) → Type 0
TellWants left [] = Unit {0}
TellWants left (row ∷ rows) = TellsWant left row.0 row.1 × TellWants left rows

row_wants : (left : ℕ) (rows : List (Bool × Refusal)) (required present : ℕ) → TellWants left rows
    → first_row rows ≡ Some (refusal.Cut required present) → WantsBytes left (refusal.Cut required present)
row_wants left [] required present tell refused = absurd (none-some (refusal.Cut required present) refused)
row_wants left ((true, error) ∷ rows) required present tell refused =
    let tells = subst (TellsWant left true) (same_some error (refusal.Cut required present) refused) tell.0 in
    (tells.0, tells.1 refl)
row_wants left ((false, error) ∷ rows) required present tell refused = row_wants left rows required present tell.1 refused

body_wants : (left : ℕ) (interfaces : List Interface) (order : ByteOrder) (kind : BlockKind) (len : ℕ) (body : List ℕ)
    → TellWants left (body_rows interfaces order kind len body)
body_wants left interfaces order SectionHeader len body = (tt, tt)
body_wants left interfaces order InterfaceDescription len body = (tt, (tt, (tt, (tt, (tt, tt)))))
body_wants left interfaces order SimplePacket len body = (tt, (tt, (tt, tt)))
body_wants left interfaces order EnhancedPacket len body = (tt, (tt, (tt, tt)))
body_wants left interfaces order ObsoletePacket len body = (tt, (tt, (tt, tt)))
body_wants left interfaces order Other len body = tt

block_wants : (section : Section) (bytes : List ℕ) → TellWants (length bytes) (block_rows section bytes)
block_wants section bytes =
    let n = length bytes in
    let order = order_in section.order bytes in
    let len = word32_at order bytes 4 in
    let body = slice_range bytes 8 (len - 4) in
    let wants = body_wants n section.interfaces order (kind_in section.order bytes) len body in
    ((refl, ltb-true n 12), (tt, (tt, (tt, ((refl, ltb-true n len), (tt, wants))))))

start_wants : (begins : Bool) (bytes : List ℕ) → TellWants (length bytes) (start_rows begins bytes)
start_wants true bytes = block_wants no_section bytes
start_wants false bytes =
    let n = length bytes in
    ((refl, ltb-true n 4), (tt, ((refl, ltb-true n 24), (tt, tt))))

section_wants : (long : Bool) (section : Section) (bytes : List ℕ)
    → TellWants (length bytes) (section_rows long section bytes)
section_wants true section bytes = (tt, tt)
section_wants false section bytes = block_wants section bytes

inside_wants : (done : Bool) (order : ByteOrder) (len left : ℕ) (bytes : List ℕ)
    → TellWants (length bytes) (inside_rows done order len left bytes)
inside_wants true order len left bytes = ((refl, ltb-true (length bytes) 4), (tt, tt))
inside_wants false order len left bytes = ((refl, ltb-true (length bytes) (min left most_stretch)), tt)

stage_wants : (stage : Stage) (bytes : List ℕ) → TellWants (length bytes) (item_rows stage bytes)
stage_wants at_start bytes = start_wants (begins_section bytes) bytes
stage_wants (in_records first) bytes =
    let n = length bytes in
    let kept = word32_at first.order bytes 8 in
    ((refl, ltb-true n 16), (tt, ((refl, ltb-true n (16 + kept)), tt)))
stage_wants (in_section section) bytes = section_wants (begins_long section.order bytes) section bytes
stage_wants (inside section len left) bytes = inside_wants (left == 0) section.order len left bytes

-- An item that is rejected for too few bytes requires more than there are.
pub item_wants : (stage : Stage) (bytes : List ℕ) (required present : ℕ)
    → first_row (item_rows stage bytes) ≡ Some (refusal.Cut required present)
    → WantsBytes (length bytes) (refusal.Cut required present)
item_wants stage bytes required present refused =
    row_wants (length bytes) (item_rows stage bytes) required present (stage_wants stage bytes) refused
