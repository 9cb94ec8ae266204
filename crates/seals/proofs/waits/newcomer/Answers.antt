-- Each field is what its reader gave.
use Rattle.seals.proofs.waits.newcomer.Goals as goal

pub returns : goal.returns
returns c =
    simp (
      c.new.ensures,
      c.held_expiry.ensures,
      c.held_timeout.ensures,
      c.held_user_data.ensures,
      c.held_receive_key.ensures,
      c.held_send_key.ensures,
      c.held_client_id.ensures,
    )
