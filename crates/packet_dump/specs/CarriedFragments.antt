-- IP fragments in packets that were read laxly.
use Rattle.std.specs.Prelude.{ℕ, Option}
use Rattle.std.specs.Option.{option_map}
use Rattle.etherparse.specs.FrameFragments.{fragment_of}
use Rattle.etherparse.specs.IpFragments.{IpFragment}
use Rattle.etherparse.specs.LaxLayers.{LaxLayers}
use Rattle.etherparse.specs.StrictFrames.{layers_in}
use Rattle.etherparse.specs.Streams.{PacketFragment, name_of, packet_fragment}
use Rattle.etherparse.specs.Types.IpFragId.{IpFragId}
use Rattle.packet_dump.specs.declared.fragments.Carried.{Carried}

-- the fragment in these layers, if they carry one
abbrev pub fragment_in : LaxLayers → Option PacketFragment
fragment_in read = option_map packet_fragment (fragment_of (layers_in read))

-- a fragment with the identifier of its stream in channel 0
abbrev pub named_fragment : PacketFragment → IpFragId ℕ × IpFragment
named_fragment carried = (name_of carried 0, carried.fragment)

abbrev pub plain_carried : Carried → IpFragId ℕ × IpFragment
plain_carried carried = (carried.name, carried.fragment)
