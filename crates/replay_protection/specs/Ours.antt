-- The window of the code, as one of the definitions.
use Rattle.std.specs.Prelude.{ℕ}
use Rattle.replay_protection.specs.declared.ReplayProtection.{ReplayProtection}
use Rattle.replay_protection.specs.Replay.{Window, window}

-- the width of the code's window: document 01's 256
abbrev pub width : ℕ
width = 256

-- the window that a value of the code is, and the value that a window is
abbrev pub window_of : ReplayProtection → Window
window_of p = window p.most_recent_sequence p.received_packet

abbrev pub protection : Window → ReplayProtection
protection win = record { most_recent_sequence = win.most; received_packet = win.ring }
