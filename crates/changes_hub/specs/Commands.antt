-- The commands of command lines (own).
use Rattle.std.specs.Prelude.{ℕ, ◌^◌, List, [], ◌∷◌, Bool, ◌&&◌, nat_le, nat_lt, length, codes, bytes_eq}
use Rattle.std.specs.Prelude.{if◌then◌else◌, Option, Some, None, option_map, string_bytes}
use Rattle.std.specs.List.{list_all}
use Rattle.std.specs.Str.Parse.{digits_value}
use Rattle.changes_hub.specs.declared.command.Command.{Command}
use Rattle.changes_hub.specs.declared.command.Command.TheVariants as command

-- the tasks of the program: to answer standard input, or to serve so many connections at an address
pub data ProgramTask : Type 0 where
  Stdin : ProgramTask
  Serve : (address : List ℕ) (count : ℕ) → ProgramTask

-- the task of a command
abbrev pub asked_of : Command → ProgramTask
asked_of command.Stdin = Stdin
asked_of (command.Serve address count) = Serve (string_bytes address) count

-- the byte is a digit, 0 to 9
abbrev pub is_digit : ℕ → Bool
is_digit b = nat_le 48 b && nat_le b 57

-- one digit or more, and nothing else
abbrev pub is_numeral : List ℕ → Bool
is_numeral text = nat_lt 0 (length text) && list_all is_digit text

-- The COUNT that a word writes: decimal digits, with any zeros in front, up to 4,294,967,295. `3` and `003`
-- are 3. `+3`, `3x`, `4294967296` and the empty word are none.
abbrev pub count_in : List ℕ → Option ℕ
count_in text =
    if is_numeral text && nat_lt (digits_value 10 text) (2 ^ 32) then Some (digits_value 10 text) else None

-- the task of the words behind `stdin`, of which there may be none
abbrev pub stdin_with : List (List ℕ) → Option ProgramTask
stdin_with [] = Some Stdin
stdin_with (word ∷ words) = None

-- the task of the words behind `serve`: an ADDRESS and a COUNT, and nothing else; the address is not checked
abbrev pub serve_with : List (List ℕ) → Option ProgramTask
serve_with [] = None
serve_with (address ∷ []) = None
serve_with (address ∷ text ∷ []) = option_map (Serve address) (count_in text)
serve_with (address ∷ text ∷ word ∷ words) = None

-- The task that words ask for, without the program's own name; where they are no command the usage is told.
-- `stdin` is a command, and `serve 127.0.0.1:5984 3` is one. `serve`, `stdin 3` and `serve 127.0.0.1:5984 x`
-- are none.
abbrev pub asked_by : List (List ℕ) → Option ProgramTask
asked_by [] = None
asked_by (first ∷ words) =
    if bytes_eq first (codes "stdin") then stdin_with words
    else if bytes_eq first (codes "serve") then serve_with words
    else None
