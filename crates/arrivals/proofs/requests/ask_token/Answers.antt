-- The nonce is copied over the whole of a local array, and each field is read where it stands.
use Rattle.server.proofs.Pieces.{copied}
use Rattle.arrivals.proofs.Ways.{token_asked_lem}
use borrow.Author.Rules.{rules}
use Rattle.arrivals.proofs.requests.ask_token.Goals as goal

pub returns : goal.returns
returns c =
    let a = c.args in
    token_asked_lem a.server a.addr a.out a.datagram.now _ (copied _ a.datagram.now 30 24 c.copy.ensures (search rules) (search rules))
    _ _ _ c.read_u64-expire_timestamp.ensures c.read_u64.ensures c.read_u64-2.ensures
    _ c.private_token_ask-ask.ensures _ c.asking.ensures
