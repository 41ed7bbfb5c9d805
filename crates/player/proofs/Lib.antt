mod Draining
mod Driven
mod Reading
