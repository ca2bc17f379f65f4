-- The limits of the devices for tests.
use Rattle.std.specs.Prelude.{ℕ}
use Rattle.byte_device.specs.declared.limited.Pieces.{Pieces}
use Rattle.byte_device.specs.declared.limited.Short.{Short}
use Rattle.byte_device.specs.declared.placed_pieces.PlacedPieces.{PlacedPieces}

-- the most bytes that it returns at once
abbrev pub piece_size : Pieces → ℕ
piece_size p = p.size

-- the number of bytes that it still returns before it fails
abbrev pub pieces_limit : Pieces → ℕ
pieces_limit p = p.limit

-- the number of bytes that it still accepts before it fails
abbrev pub short_limit : Short → ℕ
short_limit s = s.limit

-- the most bytes that a device with offsets returns at once
abbrev pub placed_piece_size : PlacedPieces → ℕ
placed_piece_size p = p.size

-- the number of bytes that a device with offsets still returns before it fails
abbrev pub placed_pieces_limit : PlacedPieces → ℕ
placed_pieces_limit p = p.limit
