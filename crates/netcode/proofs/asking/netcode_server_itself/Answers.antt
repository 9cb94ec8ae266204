-- Limit and clock of the record that the words are.
use Rattle.netcode.proofs.asking.netcode_server_itself.Goals as goal

pub returns : goal.returns
returns c = simp (c.max_clients-limit.ensures, c.current_time-clock.ensures, c.read-server.ensures)
