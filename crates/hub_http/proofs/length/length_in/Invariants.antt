use Rattle.std.proofs.Common.{◌≡◌, min, true, take}
use Rattle.std.specs.List.{list_all}
use Rattle.std.specs.Char.{is_ascii_digit}
use Rattle.std.specs.Str.Parse.{digits_value}
use Rattle.hub_http.proofs.length.length_in.Given as goal

abbrev pub invariant-loop-b : goal.invariant-loop-b
invariant-loop-b l =
    (l.n ≡ min (digits_value 10 (take l.b-index l.digits)) 8388609)
    × (list_all is_ascii_digit (take l.b-index l.digits) ≡ true)
