-- Conversions from the error of a single layer to that of a packet: each kind becomes the variant of that kind. The
-- offset is kept as in the layer's error, from the start of the layer.
use Rattle.ep_base.specs.declared.err.ip.HeadersError.{HeadersError}
use Rattle.ep_base.specs.declared.err.ip.HeadersError.TheVariants as headers_error
use Rattle.ep_base.specs.declared.err.ip.SliceError.{SliceError as IpError}
use Rattle.ep_base.specs.declared.err.ip.SliceError.TheVariants as ip_error
use Rattle.ep_base.specs.declared.err.ipv4.SliceError.{SliceError as Ipv4Error}
use Rattle.ep_base.specs.declared.err.ipv4.SliceError.TheVariants as ipv4_error
use Rattle.ep_base.specs.declared.err.ipv6.SliceError.{SliceError as Ipv6Error}
use Rattle.ep_base.specs.declared.err.ipv6.SliceError.TheVariants as ipv6_error
use Rattle.ep_base.specs.declared.err.linux_sll.HeaderSliceError.{HeaderSliceError as LinuxSllError}
use Rattle.ep_base.specs.declared.err.macsec.HeaderSliceError.{HeaderSliceError as MacsecError}
use Rattle.ep_base.specs.declared.err.macsec.HeaderSliceError.TheVariants as macsec_error
use Rattle.ep_base.specs.declared.err.tcp.HeaderSliceError.{HeaderSliceError as TcpError}
use Rattle.ep_base.specs.declared.err.tcp.HeaderSliceError.TheVariants as tcp_error
use Rattle.ep_packet.specs.declared.err.slice_error.SliceError.{SliceError}
use Rattle.ep_packet.specs.declared.err.slice_error.SliceError.TheVariants as packet
use Rattle.ep_packet.specs.FrameRefusals.{linux_sll_refusal}

-- Error of the header of a Linux cooked capture.
abbrev pub of_linux_sll : LinuxSllError → SliceError
of_linux_sll = linux_sll_refusal

-- Error of a MACsec tag.
abbrev pub of_macsec : MacsecError → SliceError
of_macsec (macsec_error.Len error) = packet.Len error
of_macsec (macsec_error.Content error) = packet.Macsec error

-- Error of the content of IP headers, of either version.
abbrev pub of_ip_headers : HeadersError → SliceError
of_ip_headers (headers_error.Ip error) = packet.Ip error
of_ip_headers (headers_error.Ipv4Ext error) = packet.Ipv4Exts error
of_ip_headers (headers_error.Ipv6Ext error) = packet.Ipv6Exts error

-- Error of an IP packet of either version.
abbrev pub of_ip : IpError → SliceError
of_ip (ip_error.Len error) = packet.Len error
of_ip (ip_error.IpHeaders error) = of_ip_headers error

-- Error of an IPv4 packet.
abbrev pub of_ipv4 : Ipv4Error → SliceError
of_ipv4 (ipv4_error.Len error) = packet.Len error
of_ipv4 (ipv4_error.Header error) = packet.Ipv4 error
of_ipv4 (ipv4_error.Exts error) = packet.Ipv4Exts error

-- Error of an IPv6 packet.
abbrev pub of_ipv6 : Ipv6Error → SliceError
of_ipv6 (ipv6_error.Len error) = packet.Len error
of_ipv6 (ipv6_error.Header error) = packet.Ipv6 error
of_ipv6 (ipv6_error.Exts error) = packet.Ipv6Exts error

-- Error of a TCP segment.
abbrev pub of_tcp : TcpError → SliceError
of_tcp (tcp_error.Len error) = packet.Len error
of_tcp (tcp_error.Content error) = packet.Tcp error
