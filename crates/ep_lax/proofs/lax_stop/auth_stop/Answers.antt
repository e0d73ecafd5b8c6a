use Rattle.ep_lax.proofs.lax_stop.auth_stop.Goals as goal

pub authentication_stop-requires : goal.authentication_stop-requires
authentication_stop-requires c = c.requires c.in-Some.error c.in-Some.is
