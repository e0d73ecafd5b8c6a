-- The texts of slice errors.
use Rattle.std.specs.Prelude.{ℕ, List, ◌++◌, codes}
use Rattle.std.specs.Fmt.{decimal}
use Rattle.etherparse.specs.Names.{layer_name, len_source_name}
use Rattle.etherparse.specs.Types.LenError.{LenError}
use Rattle.etherparse.specs.Types.IpAuthHeaderError.TheVariants as auth_error
use Rattle.etherparse.specs.Types.IpHeaderError.TheVariants as ip_error
use Rattle.etherparse.specs.Types.Ipv4HeaderError.TheVariants as ipv4_error
use Rattle.etherparse.specs.Types.Ipv6HeaderError.TheVariants as ipv6_error
use Rattle.etherparse.specs.Types.Ipv6ExtsHeaderError.TheVariants as exts_error
use Rattle.etherparse.specs.Types.LinuxSllHeaderError.TheVariants as linux_sll_error
use Rattle.etherparse.specs.Types.MacsecHeaderError.TheVariants as macsec_error
use Rattle.etherparse.specs.Types.TcpHeaderError.TheVariants as tcp_error
use Rattle.etherparse.specs.Types.SliceError.{SliceError}
use Rattle.etherparse.specs.Types.SliceError.TheVariants.{Len, LinuxSll, Macsec, Ip, Ipv4, Ipv6, Ipv4Exts, Ipv6Exts, Tcp}

-- layer, number of bytes it needs, and number of bytes present
unfoldable pub needed_text : LenError → List ℕ
needed_text error =
    layer_name error.layer ++ (codes ": " ++ decimal error.required_len)
    ++ (codes " bytes needed, " ++ decimal error.len)

-- length field or slice that limits the bytes present, and offset of the layer
unfoldable pub limit_text : LenError → List ℕ
limit_text error =
    codes " there (limit " ++ len_source_name error.len_source
    ++ (codes ", offset " ++ decimal error.layer_start_offset)

-- text of a length error
abbrev pub len_error_text : LenError → List ℕ
len_error_text error = needed_text error ++ limit_text error ++ codes ")"

-- text of an error, with this number in place of its own
abbrev pub reason_text_with : SliceError → ℕ → List ℕ
reason_text_with (Len error) number = len_error_text error
reason_text_with (LinuxSll (linux_sll_error.UnsupportedPacketTypeField held)) number =
    codes "UnsupportedPacketTypeField " ++ decimal number
reason_text_with (LinuxSll (linux_sll_error.UnsupportedArpHardwareId held)) number =
    codes "UnsupportedArpHardwareId " ++ decimal number
reason_text_with (Macsec macsec_error.UnexpectedVersion) number = codes "UnexpectedVersion"
reason_text_with (Macsec macsec_error.InvalidUnmodifiedShortLen) number = codes "InvalidUnmodifiedShortLen"
reason_text_with (Ip (ip_error.UnsupportedIpVersion held)) number = codes "UnsupportedIpVersion " ++ decimal number
reason_text_with (Ip (ip_error.Ipv4HeaderLengthSmallerThanHeader held)) number =
    codes "Ipv4HeaderLengthSmallerThanHeader " ++ decimal number
reason_text_with (Ipv4 (ipv4_error.UnexpectedVersion held)) number = codes "UnexpectedVersion " ++ decimal number
reason_text_with (Ipv4 (ipv4_error.HeaderLengthSmallerThanHeader held)) number =
    codes "HeaderLengthSmallerThanHeader " ++ decimal number
reason_text_with (Ipv6 (ipv6_error.UnexpectedVersion held)) number = codes "UnexpectedVersion " ++ decimal number
reason_text_with (Ipv4Exts auth_error.ZeroPayloadLen) number = codes "ZeroPayloadLen"
reason_text_with (Ipv6Exts exts_error.HopByHopNotAtStart) number = codes "HopByHopNotAtStart"
reason_text_with (Ipv6Exts (exts_error.IpAuth auth_error.ZeroPayloadLen)) number = codes "ZeroPayloadLen"
reason_text_with (Tcp (tcp_error.DataOffsetTooSmall held)) number = codes "DataOffsetTooSmall " ++ decimal number

-- number of the rejected field, 0 for an error without one
abbrev pub rejected_value : SliceError → ℕ
rejected_value (LinuxSll (linux_sll_error.UnsupportedPacketTypeField held)) = held
rejected_value (LinuxSll (linux_sll_error.UnsupportedArpHardwareId held)) = held
rejected_value (Ip (ip_error.UnsupportedIpVersion held)) = held
rejected_value (Ip (ip_error.Ipv4HeaderLengthSmallerThanHeader held)) = held
rejected_value (Ipv4 (ipv4_error.UnexpectedVersion held)) = held
rejected_value (Ipv4 (ipv4_error.HeaderLengthSmallerThanHeader held)) = held
rejected_value (Ipv6 (ipv6_error.UnexpectedVersion held)) = held
rejected_value (Tcp (tcp_error.DataOffsetTooSmall held)) = held
rejected_value _ = 0

-- text of an error
abbrev pub reason_text : SliceError → List ℕ
reason_text error = reason_text_with error (rejected_value error)
