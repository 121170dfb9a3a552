-- A text as the bytes of its characters, so that definitions can write words as they stand in a line. Definitions only.
use Rattle.std.specs.Prelude.{ℕ, List, [] as none, ◌∷◌ as ◌then◌}
use Prim.Native.Char.{code}
use Prim.Native.String.{String, [], ◌∷◌}

unfoldable pub bytes : String → List ℕ
bytes [] = none
bytes (c ∷ s) = code c then bytes s
