use Rattle.std.proofs.Common.{◌≡◌, ◌++◌, flat_map, string_bytes}
use Rattle.std.specs.{Str.Iter.chars_rest, Prelude.encode_utf8_all}
use Rattle.cli_arguments.specs.Shown.{shown_character}
use Rattle.cli_arguments.proofs.escapes.shown.Given as goal

-- what is shown of the characters so far, and that what is left follows them
abbrev pub invariant-characters : goal.invariant-characters
invariant-characters l =
    (string_bytes l.shown ≡ flat_map shown_character l.yielded)
    × (encode_utf8_all l.yielded ++ chars_rest l.character-iterator ≡ l.text)
