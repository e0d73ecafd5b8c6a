use Rattle.ep_ip.proofs.lax.auth_error_in_packet.Goals as goal

pub auth_error_after_header-requires : goal.auth_error_after_header-requires
auth_error_after_header-requires c = c.requires c.in-Some.error c.in-Some.is
