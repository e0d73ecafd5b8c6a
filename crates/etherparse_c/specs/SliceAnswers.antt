-- Answer of `etherparse_2_slice`.
use Rattle.std.specs.Prelude.{◌≡◌, ◌==◌, if◌then◌else◌, ℕ, List, ◌⊎◌, Option, Some, None}
use Rattle.etherparse.specs.Types.Entry.{Entry}
use Rattle.etherparse.specs.Types.Entry.TheVariants.{Ethernet as ethernet, LinuxSll as linux_sll, EtherType as ether_type, Ip as ip}
use Rattle.etherparse.specs.Types.SliceError.{SliceError}
use Rattle.etherparse.specs.Layers.{Layers, no_layers}
use Rattle.etherparse.specs.FrameRefusals.{RefusesFrame}
use Rattle.etherparse_c.specs.declared.packet.Packet.{Packet}
use Rattle.etherparse_c.specs.Description.{description}
use Rattle.etherparse_c.specs.Places.{Describes}
use Rattle.etherparse_c.specs.RefusalNumbers.{refusal_part}

-- the entry of C's number
abbrev pub entry_of : ℕ → ℕ → Option Entry
entry_of number type =
    if number == 0 then Some ethernet
    else if number == 1 then Some linux_sll
    else if number == 2 then Some (ether_type (record { 0 = type }))
    else if number == 3 then Some ip
    else None

-- the description without layers and without an error
abbrev pub no_description : Packet
no_description = description no_layers

-- the description without layers and with this error
abbrev pub refused_packet : SliceError → Packet
refused_packet error = record no_description { refusal = refusal_part error }

-- The status is 0, and the packet describes the frame; or it is 1, and the bytes are rejected with the error in the
-- packet. If the entry is unknown, the status is 2, and the packet has no layers and no error.
abbrev pub IsSliceAnswer : Option Entry → List ℕ → ℕ → Packet → Type 0
IsSliceAnswer None bytes status packet = (status ≡ 2) × (packet ≡ no_description)
IsSliceAnswer (Some entry) bytes status packet =
    ((status ≡ 0) × ((layers : Layers) × Describes entry bytes layers packet))
    ⊎ ((status ≡ 1) × ((error : SliceError) × RefusesFrame entry bytes error × (packet ≡ refused_packet error)))
