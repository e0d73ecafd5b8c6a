-- Answer of `etherparse_2_checksums`.
use Rattle.std.specs.Prelude.{◌≡◌, ◌⊎◌, ℕ, List, Option, Some, None}
use Rattle.etherparse.specs.FrameVerdicts.{frame_checksums}
use Rattle.etherparse.specs.Lax.{IsLax}
use Rattle.etherparse.specs.LaxLayers.{LaxLayers}
use Rattle.etherparse.specs.LaxRefusals.{RefusesLax}
use Rattle.etherparse.specs.StrictFrames.{layers_in}
use Rattle.etherparse.specs.Types.ChecksumVerdict.{ChecksumVerdict}
use Rattle.etherparse.specs.Types.ChecksumVerdict.TheVariants as verdict
use Rattle.etherparse.specs.Types.ChecksumVerdicts.{ChecksumVerdicts}
use Rattle.etherparse.specs.Types.Entry.{Entry}
use Rattle.etherparse.specs.Types.SliceError.{SliceError}
use Rattle.etherparse_c.specs.declared.fields.Fields.{Fields}

-- the number of a verdict, 0 for none
abbrev pub verdict_number : Option ChecksumVerdict → ℕ
verdict_number None = 0
verdict_number (Some verdict.Valid) = 1
verdict_number (Some verdict.Invalid) = 2
verdict_number (Some verdict.Absent) = 3
verdict_number (Some verdict.Unknown) = 4

-- fields with these verdicts
abbrev pub with_verdicts : ChecksumVerdicts → Fields → Fields
with_verdicts verdicts fields = record fields {
  header_checksum = verdict_number verdicts.ipv4_header;
  transport_checksum = verdict_number verdicts.transport;
}

-- the verdicts without a packet
abbrev pub no_verdicts : ChecksumVerdicts
no_verdicts = record { ipv4_header = None; transport = None }

-- The status is 0, and the verdicts are those of the lax layers of the bytes; or it is 1, and the first header is
-- rejected; or it is 2, and the entry is unknown. The other fields are unchanged.
abbrev pub IsVerdictsAnswer : Option Entry → List ℕ → Fields → Fields → ℕ → Type 0
IsVerdictsAnswer None bytes old new status = (status ≡ 2) × (new ≡ with_verdicts no_verdicts old)
IsVerdictsAnswer (Some entry) bytes old new status =
    ((status ≡ 0) × ((read : LaxLayers) × IsLax entry bytes read
    × (new ≡ with_verdicts (frame_checksums bytes (layers_in read) read.net.inside.incomplete) old)))
    ⊎ ((status ≡ 1) × ((error : SliceError) × RefusesLax entry bytes error × (new ≡ with_verdicts no_verdicts old)))
