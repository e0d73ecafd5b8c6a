-- Texts of errors.
use Rattle.std.proofs.Common.{◌≡◌, Some, refl}
use Rattle.std.specs.Option.{option_map}
use Rattle.refusal_texts.specs.ReasonTexts.{reason_text_with}
use Rattle.etherparse.specs.Types.IpHeaderError.TheVariants as ip_error
use Rattle.etherparse.specs.Types.IpAuthHeaderError.TheVariants as auth_error
use Rattle.etherparse.specs.Types.Ipv4HeaderError.TheVariants as ipv4_error
use Rattle.etherparse.specs.Types.Ipv6HeaderError.TheVariants as ipv6_error
use Rattle.etherparse.specs.Types.Ipv6ExtsHeaderError.TheVariants as exts_error
use Rattle.etherparse.specs.Types.Layer.{Layer}
use Rattle.etherparse.specs.Types.Layer.TheVariants as layer
use Rattle.etherparse.specs.Types.LinuxSllHeaderError.TheVariants as linux_sll_error
use Rattle.etherparse.specs.Types.MacsecHeaderError.TheVariants as macsec_error
use Rattle.etherparse.specs.Types.TcpHeaderError.TheVariants as tcp_error
use Rattle.etherparse.specs.Types.LenSource.{LenSource}
use Rattle.etherparse.specs.Types.LenSource.TheVariants as source
use Rattle.etherparse.specs.Types.SliceError.TheVariants.{Len, LinuxSll, Macsec, Ip, Ipv4, Ipv6, Ipv4Exts, Ipv6Exts, Tcp}
use Rattle.etherparse_c.specs.Description.{source_number}
use Rattle.etherparse_c.specs.RefusalNumbers.{layer_number, refusal_part}
use Rattle.etherparse_c.specs.RefusalTexts.{AreTextsOfRefusals, layer_of_number, len_error_of, source_of_number}

-- The number of a layer converts back to the layer.
layer_back : (it : Layer) → layer_of_number (layer_number it) ≡ Some it
layer_back layer.Ethernet2Header = refl
layer_back layer.LinuxSllHeader = refl
layer_back layer.VlanHeader = refl
layer_back layer.MacsecHeader = refl
layer_back layer.MacsecPacket = refl
layer_back layer.Arp = refl
layer_back layer.IpHeader = refl
layer_back layer.Ipv4Header = refl
layer_back layer.Ipv4Packet = refl
layer_back layer.IpAuthHeader = refl
layer_back layer.Ipv6Header = refl
layer_back layer.Ipv6Packet = refl
layer_back layer.Ipv6ExtHeader = refl
layer_back layer.Ipv6FragHeader = refl
layer_back layer.UdpHeader = refl
layer_back layer.UdpPayload = refl
layer_back layer.TcpHeader = refl
layer_back layer.Icmpv4 = refl
layer_back layer.Icmpv4Timestamp = refl
layer_back layer.Icmpv4TimestampReply = refl
layer_back layer.Icmpv6 = refl

-- The number of a length source converts back to the length source.
source_back : (it : LenSource) → source_of_number (source_number it) ≡ Some it
source_back source.Slice = refl
source_back source.MacsecShortLength = refl
source_back source.Ipv4HeaderTotalLen = refl
source_back source.Ipv6HeaderPayloadLen = refl
source_back source.UdpHeaderLen = refl
source_back source.ArpAddrLengths = refl

pub texts_of_refusals : AreTextsOfRefusals
texts_of_refusals (Len error) =
    λ i. option_map (λ it. reason_text_with it 0)
    (len_error_of (refusal_part (Len error)) (layer_back error.layer i) (source_back error.len_source i))
texts_of_refusals (LinuxSll (linux_sll_error.UnsupportedPacketTypeField number)) = refl
texts_of_refusals (LinuxSll (linux_sll_error.UnsupportedArpHardwareId number)) = refl
texts_of_refusals (Macsec macsec_error.UnexpectedVersion) = refl
texts_of_refusals (Macsec macsec_error.InvalidUnmodifiedShortLen) = refl
texts_of_refusals (Ip (ip_error.UnsupportedIpVersion version)) = refl
texts_of_refusals (Ip (ip_error.Ipv4HeaderLengthSmallerThanHeader ihl)) = refl
texts_of_refusals (Ipv4 (ipv4_error.UnexpectedVersion version)) = refl
texts_of_refusals (Ipv4 (ipv4_error.HeaderLengthSmallerThanHeader ihl)) = refl
texts_of_refusals (Ipv6 (ipv6_error.UnexpectedVersion version)) = refl
texts_of_refusals (Ipv4Exts auth_error.ZeroPayloadLen) = refl
texts_of_refusals (Ipv6Exts exts_error.HopByHopNotAtStart) = refl
texts_of_refusals (Ipv6Exts (exts_error.IpAuth auth_error.ZeroPayloadLen)) = refl
texts_of_refusals (Tcp (tcp_error.DataOffsetTooSmall data_offset)) = refl
