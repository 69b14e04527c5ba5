use Rattle.std.proofs.Common.{refl}
use Rattle.std.proofs.lemmas.Fmt.{decimal_digit}
use Rattle.hub_http.proofs.change_text.sequence_room.Goals as goal

pub returns : goal.returns
returns c = rw (decimal_digit c.args.life c.requires) refl
