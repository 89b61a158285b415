-- What a reader may still take, and what it may add to an arena.
use Rattle.std.specs.Prelude.{ℕ, ◌+◌, ◌-◌, ◌^◌, ◌<◌, ◌≤◌, length}
use Rattle.amf_io.specs.declared.window.Window.{Window}
use Rattle.amf_io.specs.declared.cursor.Cursor.{Cursor}
use Rattle.amf_io.specs.Cursor.{place, bound}
use Rattle.amf_graph.specs.Arena.{Arena}
use Rattle.amf_graph.specs.Bounds.{weight}

-- what a reader may have and add, of each number of an arena, is below it
abbrev pub room_end : ℕ
room_end = 2 ^ 27

-- each number of the arena, and so many bytes together
pub record HasRoomFor (a : Arena) (bytes : ℕ) : Type 0 where
  pub texts : length a.texts + bytes < room_end
  pub traits : length a.traits + bytes < room_end
  pub nodes : length a.nodes + bytes < room_end

-- how many bytes may still come
abbrev pub left_of : {S : Type 0} → Cursor S Window → ℕ
left_of c = bound c - place c

-- the weight was raised by less than so many bytes, and each number by at most as many
pub record Raises (a b : Arena) (bytes : ℕ) : Type 0 where
  pub heavier : weight b < weight a + bytes
  pub texts : length b.texts ≤ length a.texts + bytes
  pub traits : length b.traits ≤ length a.traits + bytes
  pub nodes : length b.nodes ≤ length a.nodes + bytes
