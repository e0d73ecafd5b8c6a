-- Names of errors in the counts of a summary.
use Rattle.std.specs.Prelude.{ℕ, List, codes}
use Rattle.etherparse.specs.Names.{layer_name}
use Rattle.etherparse.specs.Types.IpAuthHeaderError.TheVariants as auth_error
use Rattle.etherparse.specs.Types.IpHeaderError.TheVariants as ip_error
use Rattle.etherparse.specs.Types.Ipv4HeaderError.TheVariants as ipv4_error
use Rattle.etherparse.specs.Types.Ipv6HeaderError.TheVariants as ipv6_error
use Rattle.etherparse.specs.Types.Ipv6ExtsHeaderError.TheVariants as exts_error
use Rattle.etherparse.specs.Types.LinuxSllHeaderError.TheVariants as linux_sll_error
use Rattle.etherparse.specs.Types.MacsecHeaderError.TheVariants as macsec_error
use Rattle.etherparse.specs.Types.TcpHeaderError.TheVariants as tcp_error
use Rattle.etherparse.specs.Types.SliceError.{SliceError}
use Rattle.etherparse.specs.Types.SliceError.TheVariants.{Len, LinuxSll, Macsec, Ip, Ipv4, Ipv6, Ipv4Exts, Ipv6Exts, Tcp}

-- the name of an error in the counts: the layer if bytes are missing, else the layer and the error
abbrev pub error_name : SliceError → List ℕ
error_name (Len error) = layer_name error.layer
error_name (LinuxSll (linux_sll_error.UnsupportedPacketTypeField number)) = codes "LinuxSll UnsupportedPacketTypeField"
error_name (LinuxSll (linux_sll_error.UnsupportedArpHardwareId number)) = codes "LinuxSll UnsupportedArpHardwareId"
error_name (Macsec macsec_error.UnexpectedVersion) = codes "Macsec UnexpectedVersion"
error_name (Macsec macsec_error.InvalidUnmodifiedShortLen) = codes "Macsec InvalidUnmodifiedShortLen"
error_name (Ip (ip_error.UnsupportedIpVersion version)) = codes "Ip UnsupportedIpVersion"
error_name (Ip (ip_error.Ipv4HeaderLengthSmallerThanHeader ihl)) = codes "Ip Ipv4HeaderLengthSmallerThanHeader"
error_name (Ipv4 (ipv4_error.UnexpectedVersion version)) = codes "Ipv4 UnexpectedVersion"
error_name (Ipv4 (ipv4_error.HeaderLengthSmallerThanHeader ihl)) = codes "Ipv4 HeaderLengthSmallerThanHeader"
error_name (Ipv6 (ipv6_error.UnexpectedVersion version)) = codes "Ipv6 UnexpectedVersion"
error_name (Ipv4Exts auth_error.ZeroPayloadLen) = codes "Ipv4Exts ZeroPayloadLen"
error_name (Ipv6Exts exts_error.HopByHopNotAtStart) = codes "Ipv6Exts HopByHopNotAtStart"
error_name (Ipv6Exts (exts_error.IpAuth auth_error.ZeroPayloadLen)) = codes "Ipv6Exts ZeroPayloadLen"
error_name (Tcp (tcp_error.DataOffsetTooSmall data_offset)) = codes "Tcp DataOffsetTooSmall"
